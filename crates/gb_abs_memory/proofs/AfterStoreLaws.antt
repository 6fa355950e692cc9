-- What the state after a store is: its parts are such as before, and a second store, to the next address, is asked as
-- it was before the first.
use Rattle.std.proofs.Common.{◌≡◌, ℕ, ◌+◌, ◌%◌, ◌≤◌, ◌<◌, Bool, true, false, cond, not, ◌&&◌, ◌||◌, nat_le, if◌then◌else◌, ◌⊎◌, inl, inr, List, Option, Some, None, refl, sym, ◌∙◌, ap, subst, arith}
use Rattle.std.proofs.lemmas.Bool.Decides.{nat_tests}
use Rattle.std.proofs.lemmas.List.Elements.{All-from_recursion}
use Rattle.std.specs.List.{AllByRecursion}
use Rattle.gb_ops.specs.declared.machine.Kind.{Kind}
use Rattle.gb_ops.specs.declared.machine.Kind.TheVariants as kind
use Rattle.gb_ops.specs.declared.machine.Region.{Region}
use Rattle.gb_ops.specs.Cartridge.{kind_of, has_ram_or_clock}
use Rattle.gb_domain.specs.declared.types.Val.{Val}
use Rattle.gb_domain.specs.declared.types.Ctl.{Ctl}
use Rattle.gb_domain.specs.declared.types.Core.{Core}
use Rattle.gb_domain.specs.declared.types.Range.{Range}
use Rattle.gb_domain.specs.Types.{AbsState}
use Rattle.gb_domain.specs.declared.setting.Setting.{Setting}
use Rattle.gb_domain.specs.Rules.{IsVal, IsCtl, IsCore}
use Rattle.gb_abs.specs.declared.span.Span.{Span}
use Rattle.gb_abs.specs.Span.{IsIn, one, may_meet}
use Rattle.gb_abs.proofs.SpanLaws.{Has-none}
use Rattle.gb_abs_memory.specs.declared.windows.ControllerRegister.{ControllerRegister}
use Rattle.gb_abs_memory.specs.declared.windows.ControllerRegister.TheVariants as register
use Rattle.gb_abs_memory.specs.declared.windows.Window.{Window}
use Rattle.gb_abs_memory.specs.declared.store.Area.{Area}
use Rattle.gb_abs_memory.specs.declared.store.Area.TheVariants as area
use Rattle.gb_abs_memory.specs.Windows.{windows, window_of, ctl_after, high_half_after, is_high, ctl_by, ctl_written}
use Rattle.gb_abs_memory.specs.Access.{may_be_closed, meets_closed_ram, may_copy_closed_ram, store_meets_closed_ram, is_limited, is_store_limited, area_by, area_of, is_storable, ram_stored, stored_in, stored_state, starts_oam_transfer}
use Rattle.gb_abs_memory.specs.Sound.{IsSoundStore}
use Rattle.gb_abs_memory.proofs.StoreLaws.{IsSoundStore-stored_state}
use Rattle.gb_abs_memory.proofs.WindowLaws.{ctl_written-valid}
use Rattle.gb_abs_memory.proofs.ControllerLaws.{IsInWindow-window_of}

-- ---- the core after a store

-- a core with other registers of the controller, and another IE
record IsWritten (before after : Core) (P : Ctl → Type 0) (Q : Val → Type 0) : Type 0 where
  ctl : Ctl
  ie : Val
  registers : P ctl
  enable : Q ie
  is : after ≡ record before { ctl = ctl; ie = ie }

IsWritten-stored_in :
    (z : Setting) (region : Region) (o : Option Area) (k : Kind) (span : Span) (v : Val) (s : AbsState) (P : Ctl → Type 0) (Q : Val → Type 0)
    → P s.core.ctl → ((r : ControllerRegister) → o ≡ Some (area.Controller (Some r)) → P (ctl_written z.is_whole k r v s.core.ctl)) → Q s.core.ie → Q v
    → IsWritten s.core (stored_in z region o k span v s).core P Q
unfolding ram_stored
IsWritten-stored_in z region None k span v s P Q p r q h = record { ctl = s.core.ctl; ie = s.core.ie; registers = p; enable = q; is = refl }
IsWritten-stored_in z region (Some (area.Controller None)) k span v s P Q p r q h = record { ctl = s.core.ctl; ie = s.core.ie; registers = p; enable = q; is = refl }
IsWritten-stored_in z region (Some (area.Controller (Some which))) k span v s P Q p r q h =
    record { ctl = ctl_written z.is_whole k which v s.core.ctl; ie = s.core.ie; registers = r which refl; enable = q; is = refl }
IsWritten-stored_in z region (Some area.Hardware) k span v s P Q p r q h = record { ctl = s.core.ctl; ie = s.core.ie; registers = p; enable = q; is = refl }
IsWritten-stored_in z region (Some area.Ram) k span v s P Q p r q h = record { ctl = s.core.ctl; ie = s.core.ie; registers = p; enable = q; is = refl }
IsWritten-stored_in z region (Some area.InterruptEnable) k span v s P Q p r q h = record { ctl = s.core.ctl; ie = v; registers = p; enable = h; is = refl }

IsWritten-stored_state :
    (z : Setting) (region : Region) (k : Kind) (span : Span) (v : Val) (s : AbsState) (P : Ctl → Type 0) (Q : Val → Type 0)
    → P s.core.ctl → ((r : ControllerRegister) → area_of k span ≡ Some (area.Controller (Some r)) → P (ctl_written z.is_whole k r v s.core.ctl)) → Q s.core.ie → Q v
    → IsWritten s.core (stored_state z region k span v s).core P Q
unfolding stored_state
IsWritten-stored_state z region k span v s P Q p r q h = IsWritten-stored_in z region (area_of k span) k span v s P Q p r q h

-- nothing to be said
abbrev Any : {X : Type 0} → X → Type 0
Any x = Unit {0}

-- the core's parts are such after the store
pub IsCore-stored_state : (z : Setting) (region : Region) (k : Kind) (span : Span) (v : Val) (s : AbsState) → IsVal v → IsCore s.core → IsCore (stored_state z region k span v s).core
IsCore-stored_state z region k span v s h c =
    let w = IsWritten-stored_state z region k span v s IsCtl IsVal c.ctl (λ r e. ctl_written-valid z.is_whole k r v s.core.ctl h c.ctl) c.ie h in
    subst IsCore (sym w.is)
    (record { ime = c.ime; bound = c.bound; ctl = w.registers; flags = c.flags; ie = w.enable; registers = c.registers })

pub IsVal-stored_ie : (z : Setting) (region : Region) (k : Kind) (span : Span) (v : Val) (s : AbsState) → IsVal v → IsVal s.core.ie → IsVal (stored_state z region k span v s).core.ie
IsVal-stored_ie z region k span v s h ie =
    let w = IsWritten-stored_state z region k span v s (λ c. Any c) IsVal tt (λ r e. tt) ie h in
    subst (λ (c : Core). IsVal c.ie) (sym w.is) w.enable

-- ---- a second store

stored_state-bound : (z : Setting) (region : Region) (k : Kind) (span : Span) (v : Val) (s : AbsState) → (stored_state z region k span v s).core.bound ≡ s.core.bound
stored_state-bound z region k span v s =
    let w = IsWritten-stored_state z region k span v s (λ c. Any c) (λ ie. Any ie) tt (λ r e. tt) tt tt in
    ap (λ (c : Core). c.bound) w.is

pub is_limited-stored : (z : Setting) (region : Region) (k : Kind) (span other : Span) (v : Val) (s : AbsState) → is_limited (stored_state z region k span v s).core other ≡ is_limited s.core other
unfolding is_limited
is_limited-stored z region k span other v s = rw (stored_state-bound z region k span v s) refl

-- no store changes whether an OAM transfer limits another one
pub is_store_limited-stored :
    (z : Setting) (region : Region) (k : Kind) (span other : Span) (v : Val) (s : AbsState) → is_store_limited (stored_state z region k span v s).core other ≡ is_store_limited s.core other
unfolding is_store_limited
is_store_limited-stored z region k span other v s = rw (is_limited-stored z region k span other v s) refl

-- the gate's window ends at 1FFF
gate-low : (k : Kind) → AllByRecursion (λ (w : Window). w.register ≡ Some register.Gate → w.last ≤ 0x1FFF) (windows k)
unfolding windows
gate-low kind.Rom = (λ e. cc, tt)
gate-low kind.Mbc1 = (λ e. omega arith, (λ e. cc, (λ e. cc, (λ e. cc, tt))))
gate-low kind.Mbc3 = (λ e. omega arith, (λ e. cc, (λ e. cc, (λ e. cc, tt))))
gate-low kind.Mbc5 = (λ e. omega arith, (λ e. cc, (λ e. cc, (λ e. cc, (λ e. cc, tt)))))

some_area-same : (x y : Option ControllerRegister) → Some (area.Controller x) ≡ Some (area.Controller y) → x ≡ y
some_area-same x y e = cc

gate-below : (k : Kind) (span : Span) (a : ℕ) → IsIn span a → area_of k span ≡ Some (area.Controller (Some register.Gate)) → a < 0x2000
unfolding area_of
gate-below k span a i e = by_window (window_of k span) refl e
  where
    above : (hardware ram enable : Bool)
        → (if hardware then Some area.Hardware else if ram then Some area.Ram else if enable then Some area.InterruptEnable else None)
        ≡ Some (area.Controller (Some register.Gate)) → a < 0x2000
    above true ram enable e = cc
    above false true enable e = cc
    above false false true e = cc
    above false false false e = cc

    by_window : (o : Option Window) → window_of k span ≡ o → area_by o span ≡ Some (area.Controller (Some register.Gate)) → a < 0x2000
    by_window None is e = above _ _ _ e
    by_window (Some w) is e =
        let at = IsInWindow-window_of k span w a is i in
        let c = at.is_window in
        let low : w.last ≤ 0x1FFF =
        subst (λ (u : Window). u.register ≡ Some register.Gate → u.last ≤ 0x1FFF) c.2
        (All-from_recursion (λ (u : Window). u.register ≡ Some register.Gate → u.last ≤ 0x1FFF) (windows k) (gate-low k) c.0 w c.1) (some_area-same _ _ e) in
        let last = at.last in
        omega arith

-- no other register changes the gate
gate-other : (k : Kind) (r : ControllerRegister) (v : Val) (c : Ctl) → (r ≡ register.Gate → ⊥) → (ctl_after k r v c).gate ≡ c.gate
unfolding ctl_after
gate-other k register.Gate v c n = absurd (n refl)
gate-other k register.Bank v c n = refl
gate-other k register.LowBank v c n = refl
gate-other k register.HighBank v c n = refl
gate-other k register.Second v c n = refl
gate-other k register.Mode v c n = refl

gate-written : (w : Bool) (k : Kind) (r : ControllerRegister) (v : Val) (c : Ctl) → (r ≡ register.Gate → ⊥) → (ctl_written w k r v c).gate ≡ c.gate
unfolding ctl_by
gate-written w k r v c n = choose (w && is_high r)
  where
    choose : (b : Bool) → (cond b (high_half_after v c) (ctl_after k r v c)).gate ≡ c.gate
    choose true = refl
    choose false = gate-other k r v c n

-- a store leaves the gate, or lies below 2000
gate-stored :
    (z : Setting) (region : Region) (k : Kind) (span : Span) (v : Val) (s : AbsState) (a : ℕ) → IsIn span a
    → ((stored_state z region k span v s).core.ctl.gate ≡ s.core.ctl.gate) ⊎ (a < 0x2000)
gate-stored z region k span v s a i =
    let w =
    IsWritten-stored_state z region k span v s (λ c. (c.gate ≡ s.core.ctl.gate) ⊎ (a < 0x2000)) (λ ie. Any ie) (inl refl)
    (λ r e. written r (λ g. gate-below k span a i (e ∙ ap (λ q. Some (area.Controller (Some q))) g))) tt tt in
    subst (λ (c : Core). (c.ctl.gate ≡ s.core.ctl.gate) ⊎ (a < 0x2000)) (sym w.is) w.registers
  where
    written : (r : ControllerRegister) → (r ≡ register.Gate → a < 0x2000) → ((ctl_written z.is_whole k r v s.core.ctl).gate ≡ s.core.ctl.gate) ⊎ (a < 0x2000)
    written register.Gate low = inr (low refl)
    written register.Bank low = inl (gate-written z.is_whole k register.Bank v s.core.ctl (λ e. cc))
    written register.LowBank low = inl (gate-written z.is_whole k register.LowBank v s.core.ctl (λ e. cc))
    written register.HighBank low = inl (gate-written z.is_whole k register.HighBank v s.core.ctl (λ e. cc))
    written register.Second low = inl (gate-written z.is_whole k register.Second v s.core.ctl (λ e. cc))
    written register.Mode low = inl (gate-written z.is_whole k register.Mode v s.core.ctl (λ e. cc))

-- a store's test for closed cartridge RAM, by whether the gate may be closed
abbrev met_by : List ℕ → Bool → Span → Val → Bool
met_by rom closed span v =
    may_meet 0xA000 0xBFFF span && (closed || not (has_ram_or_clock rom))
    || may_meet 0xFF46 0xFF46 span && nat_le v.lo 0xBF && nat_le 0xA0 v.hi && (closed || not (has_ram_or_clock rom))

met-is : (rom : List ℕ) (core : Core) (span : Span) (v : Val) → store_meets_closed_ram rom core span v ≡ met_by rom core.ctl.gate.clear span v
unfolding store_meets_closed_ram meets_closed_ram may_copy_closed_ram may_be_closed
met-is rom core span v = refl

-- the next address, where the first one is below 2000, is neither in cartridge RAM nor FF46
met-low : (rom : List ℕ) (closed : Bool) (a : ℕ) (v : Val) → a < 0x2000 → met_by rom closed (one ((a + 1) % 65536)) v ≡ false
met-low rom closed a v low =
    let ram : may_meet 0xA000 0xBFFF (one ((a + 1) % 65536)) ≡ false = grind (arith, nat_tests) in
    let oam : may_meet 0xFF46 0xFF46 (one ((a + 1) % 65536)) ≡ false = grind (arith, nat_tests) in
    rw (ram, oam) refl

-- a store to one address leaves the test of a store to the next one
pub store_meets_closed_ram-stored :
    (z : Setting) (rom : List ℕ) (region : Region) (k : Kind) (a : ℕ) (v : Val) (s : AbsState) (w : Val)
    → store_meets_closed_ram rom (stored_state z region k (one a) v s).core (one ((a + 1) % 65536)) w ≡ store_meets_closed_ram rom s.core (one ((a + 1) % 65536)) w
store_meets_closed_ram-stored z rom region k a v s w =
    met-is rom (stored_state z region k (one a) v s).core (one ((a + 1) % 65536)) w
    ∙ choose (gate-stored z region k (one a) v s a (record { first = omega arith; last = omega arith; low = Has-none a }))
    ∙ sym (met-is rom s.core (one ((a + 1) % 65536)) w)
  where
    choose :
        ((stored_state z region k (one a) v s).core.ctl.gate ≡ s.core.ctl.gate) ⊎ (a < 0x2000)
        → met_by rom (stored_state z region k (one a) v s).core.ctl.gate.clear (one ((a + 1) % 65536)) w ≡ met_by rom s.core.ctl.gate.clear (one ((a + 1) % 65536)) w
    choose (inl same) = ap (λ g. met_by rom g.clear (one ((a + 1) % 65536)) w) same
    choose (inr low) = met-low rom _ a w low ∙ sym (met-low rom _ a w low)

-- a second store, to the next address, by its tests before the first
pub IsSoundStore-next :
    (z : Setting) (rom : List ℕ) (region : Region) (ranges : List Range) (s : AbsState) (a : ℕ) (v w : Val)
    → is_storable z (kind_of rom) region ranges (one ((a + 1) % 65536)) ≡ true
    → store_meets_closed_ram rom s.core (one ((a + 1) % 65536)) w ≡ false → is_store_limited s.core (one ((a + 1) % 65536)) ≡ false
    → IsSoundStore z rom region ranges (stored_state z region (kind_of rom) (one a) v s) (one ((a + 1) % 65536)) w
    (record {
      state = stored_state z region (kind_of rom) (one ((a + 1) % 65536)) w (stored_state z region (kind_of rom) (one a) v s);
      starts = starts_oam_transfer (one ((a + 1) % 65536));
    })
IsSoundStore-next z rom region ranges s a v w storable ram limited =
    IsSoundStore-stored_state z rom region ranges (stored_state z region (kind_of rom) (one a) v s) (one ((a + 1) % 65536)) w storable
    (store_meets_closed_ram-stored z rom region (kind_of rom) a v s w ∙ ram)
    (is_store_limited-stored z region (kind_of rom) (one a) (one ((a + 1) % 65536)) v s ∙ limited)
