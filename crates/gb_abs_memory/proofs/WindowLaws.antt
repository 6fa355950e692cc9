-- A store to a register of a controller: the bounds and sets after it hold what the machine's register may be, and no more.
use Rattle.std.proofs.Common.{◌≡◌, ℕ, ◌+◌, ◌-◌, ◌*◌, ◌/◌, ◌%◌, ◌<◌, ◌≤◌, Bool, true, false, cond, ◌&&◌, ◌||◌, ◌==◌, nat_le, Option, Some, None, refl, sym, ap, subst, arith}
use Rattle.std.proofs.lemmas.Bool.Decides.{nat_tests}
use Rattle.gb_ops.specs.declared.machine.Banks.{Banks}
use Rattle.gb_ops.specs.declared.machine.Kind.{Kind}
use Rattle.gb_ops.specs.declared.machine.Kind.TheVariants as kind
use Rattle.gb_ops.specs.Cartridge.{at_least_one, kind_after}
use Rattle.gb_domain.specs.declared.types.Val.{Val}
use Rattle.gb_domain.specs.declared.types.May.{May}
use Rattle.gb_domain.specs.declared.types.Ctl.{Ctl}
use Rattle.gb_domain.specs.declared.types.KeptBanks.{KeptBanks}
use Rattle.gb_abs.specs.Meaning.{KeepsBanks}
use Rattle.gb_domain.specs.Rules.{IsVal, IsCtl, has_value}
use Rattle.gb_abs.specs.Below.gb_vals.Meaning.{InBounds, may_be}
use Rattle.gb_abs.proofs.Below.gb_vals_laws.MeaningLaws.{may_be-by}
use Rattle.gb_abs_memory.specs.declared.windows.ControllerRegister.{ControllerRegister}
use Rattle.gb_abs_memory.specs.declared.windows.ControllerRegister.TheVariants as register
use Rattle.gb_abs_memory.specs.declared.windows.Window.{Window}
use Rattle.gb_abs_memory.specs.Windows.{kept_but, low_bank_least, low_bank_most, high_half_after, is_high, ctl_by, ctl_written, cut_least, cut_most, has_rest, has_other_rest, gate_after, mode_after, bank_after, low_bank_after, high_bank_after, second_after, bank_values, second_values, ctl_after, InCtl, InHalves, Leads, IsLeast}
use Rattle.gb_abs_memory.proofs.CutLaws.{cut_holds, cut_least-reached, cut_most-reached, cut_most-below, cut_order}

-- ---- the gate and the mode

pub gate_holds : (v : Val) (n : ℕ) → InBounds v n → may_be (gate_after v) (n % 16 == 10) ≡ true
unfolding has_rest has_other_rest
gate_holds v n m = may_be-by (gate_after v) (n % 16 == 10) (λ e. grind (arith, nat_tests)) (λ e. grind (arith, nat_tests))

pub mode_holds : (v : Val) (n : ℕ) → InBounds v n → may_be (mode_after v) (n % 2 == 1) ≡ true
unfolding has_rest
mode_holds v n m = may_be-by (mode_after v) (n % 2 == 1) (λ e. grind (arith, nat_tests)) (λ e. grind (arith, nat_tests))

-- some byte gives a bit
pub record Gives (g : ℕ → Bool) (v : Val) (b : Bool) : Type 0 where
  pub byte : ℕ
  pub stored : InBounds v byte
  pub is : g byte ≡ b

with_rest : (n r : ℕ) (v : Val) → has_rest n r v ≡ true → InBounds v (v.lo + (n + r - v.lo % n) % n)
unfolding has_rest
with_rest n r v h = record { least = omega arith; most = grind (arith, nat_tests) }

pub gate_reached : (v : Val) → IsVal v → (b : Bool) → may_be (gate_after v) b ≡ true → Gives (λ n. n % 16 == 10) v b
unfolding has_other_rest
gate_reached v q true h = record { byte = v.lo + (16 + 10 - v.lo % 16) % 16; stored = with_rest 16 10 v h; is = grind (arith, nat_tests) }
gate_reached v q false h = choose (v.lo % 16 == 10) refl h
  where
    choose : (b : Bool) → (v.lo % 16 == 10) ≡ b → has_other_rest 16 10 v ≡ true → Gives (λ n. n % 16 == 10) v false
    choose true e h = record { byte = v.lo + 1; stored = record { least = omega arith; most = grind (arith, nat_tests) }; is = grind (arith, nat_tests) }
    choose false e h = record { byte = v.lo; stored = record { least = omega arith; most = q.order }; is = e }

pub mode_reached : (v : Val) → IsVal v → (b : Bool) → may_be (mode_after v) b ≡ true → Gives (λ n. n % 2 == 1) v b
mode_reached v q true h = record { byte = v.lo + (2 + 1 - v.lo % 2) % 2; stored = with_rest 2 1 v h; is = grind (arith, nat_tests) }
mode_reached v q false h = record { byte = v.lo + (2 + 0 - v.lo % 2) % 2; stored = with_rest 2 0 v h; is = grind (arith, nat_tests) }

-- ---- a write that changes one register: what holds its new value

abbrev pub write_gate : (ℕ → Bool) → Banks → ℕ → Banks
write_gate g r n = record r { gate = g n }

abbrev pub write_mode : (ℕ → Bool) → Banks → ℕ → Banks
write_mode g r n = record r { mode = g n }

abbrev pub write_second : (ℕ → ℕ) → Banks → ℕ → Banks
write_second g r n = record r { second = g n }

abbrev pub write_bank : (ℕ → ℕ → ℕ) → Banks → ℕ → Banks
write_bank g r n = record r { bank = g r.bank n }

-- a write leaves registers within the bounds and sets
pub record IsSound (write : Banks → ℕ → Banks) (v : Val) (c after : Ctl) : Type 0 where
  pub gives : (n : ℕ) (old : Banks) → InCtl c old → InBounds v n → n ≤ 255 → InCtl after (write old n)

pub gate_sound : (g : ℕ → Bool) (m : May) (v : Val) (c : Ctl) → ((n : ℕ) → InBounds v n → may_be m (g n) ≡ true) → IsSound (write_gate g) v c (record c { gate = m })
gate_sound g m v c h = record {
  gives = λ n old w i byte. record {
    bank_least = w.bank_least;
    bank_most = w.bank_most;
    second_least = w.second_least;
    second_most = w.second_most;
    gate = h n i;
    mode = w.mode;
  };
}

pub mode_sound : (g : ℕ → Bool) (m : May) (v : Val) (c : Ctl) → ((n : ℕ) → InBounds v n → may_be m (g n) ≡ true) → IsSound (write_mode g) v c (record c { mode = m })
mode_sound g m v c h = record {
  gives = λ n old w i byte. record {
    bank_least = w.bank_least;
    bank_most = w.bank_most;
    second_least = w.second_least;
    second_most = w.second_most;
    gate = w.gate;
    mode = h n i;
  };
}

second_sound :
    (g : ℕ → ℕ) (lo hi : ℕ) (v : Val) (c : Ctl) → ((n : ℕ) → InBounds v n → n ≤ 255 → (lo ≤ g n) × (g n ≤ hi))
    → IsSound (write_second g) v c (record c { second_lo = lo; second_hi = hi })
second_sound g lo hi v c h = record {
  gives = λ n old w i byte. record {
    bank_least = w.bank_least;
    bank_most = w.bank_most;
    second_least = (h n i byte).0;
    second_most = (h n i byte).1;
    gate = w.gate;
    mode = w.mode;
  };
}

bank_sound :
    (g : ℕ → ℕ → ℕ) (lo hi : ℕ) (v : Val) (c : Ctl) → ((b n : ℕ) → c.bank_lo ≤ b → b ≤ c.bank_hi → InBounds v n → (lo ≤ g b n) × (g b n ≤ hi))
    → IsSound (write_bank g) v c (record c { bank_lo = lo; bank_hi = hi })
bank_sound g lo hi v c h = record {
  gives = λ n old w i byte. record {
    bank_least = (h old.bank n w.bank_least w.bank_most i).0;
    bank_most = (h old.bank n w.bank_least w.bank_most i).1;
    second_least = w.second_least;
    second_most = w.second_most;
    gate = w.gate;
    mode = w.mode;
  };
}

-- ---- a write that changes one register: each end is reached

a_bit : (m : May) → has_value m ≡ true → may_be m m.set ≡ true
a_bit m h = choose m.set refl
  where
    clear : (a b : Bool) → (a || b) ≡ true → b ≡ false → a ≡ true
    clear true b h e = refl
    clear false b h e = cc

    choose : (set : Bool) → m.set ≡ set → may_be m m.set ≡ true
    choose true e = subst (λ b. may_be m b ≡ true) (sym e) e
    choose false e = subst (λ b. may_be m b ≡ true) (sym e) (clear m.clear m.set h e)

-- registers within the bounds
abbrev pub some_banks : Ctl → Banks
some_banks c = record { bank = c.bank_lo; second = c.second_lo; gate = c.gate.set; mode = c.mode.set }

pub some_within : (c : Ctl) → IsCtl c → InCtl c (some_banks c)
some_within c q = record {
  bank_least = omega arith;
  bank_most = q.bank;
  second_least = omega arith;
  second_most = q.second;
  gate = a_bit c.gate q.gate;
  mode = a_bit c.mode q.mode;
}

pub with_bank : (c : Ctl) (r : Banks) (n : ℕ) → InCtl c r → c.bank_lo ≤ n → n ≤ c.bank_hi → InCtl c (record r { bank = n })
with_bank c r n w lo hi = record {
  bank_least = lo;
  bank_most = hi;
  second_least = w.second_least;
  second_most = w.second_most;
  gate = w.gate;
  mode = w.mode;
}

pub with_second : (c : Ctl) (r : Banks) (n : ℕ) → InCtl c r → c.second_lo ≤ n → n ≤ c.second_hi → InCtl c (record r { second = n })
with_second c r n w lo hi = record {
  bank_least = w.bank_least;
  bank_most = w.bank_most;
  second_least = lo;
  second_most = hi;
  gate = w.gate;
  mode = w.mode;
}

pub set_gate : (c : Ctl) (r : Banks) (b : Bool) → InCtl c r → may_be c.gate b ≡ true → InCtl c (record r { gate = b })
set_gate c r b w h = record {
  bank_least = w.bank_least;
  bank_most = w.bank_most;
  second_least = w.second_least;
  second_most = w.second_most;
  gate = h;
  mode = w.mode;
}

pub set_mode : (c : Ctl) (r : Banks) (b : Bool) → InCtl c r → may_be c.mode b ≡ true → InCtl c (record r { mode = b })
set_mode c r b w h = record {
  bank_least = w.bank_least;
  bank_most = w.bank_most;
  second_least = w.second_least;
  second_most = w.second_most;
  gate = w.gate;
  mode = h;
}

-- registers from within the bounds, each end and each member
pub record Within (c : Ctl) : Type 0 where
  pub bank : (n : ℕ) → c.bank_lo ≤ n → n ≤ c.bank_hi → InCtl c (record (some_banks c) { bank = n })
  pub second : (n : ℕ) → c.second_lo ≤ n → n ≤ c.second_hi → InCtl c (record (some_banks c) { second = n })
  pub gate : (b : Bool) → may_be c.gate b ≡ true → InCtl c (record (some_banks c) { gate = b })
  pub mode : (b : Bool) → may_be c.mode b ≡ true → InCtl c (record (some_banks c) { mode = b })

pub within : (c : Ctl) → IsCtl c → Within c
within c q =
    let some = some_within c q in
    record {
      bank = λ n lo hi. with_bank c (some_banks c) n some lo hi;
      second = λ n lo hi. with_second c (some_banks c) n some lo hi;
      gate = λ b h. set_gate c (some_banks c) b some h;
      mode = λ b h. set_mode c (some_banks c) b some h;
    }

pub least_in : (v : Val) → IsVal v → InBounds v v.lo
least_in v q = record { least = omega arith; most = q.order }

pub gate_least :
    (g : ℕ → Bool) (m : May) (v : Val) (c : Ctl) → IsVal v → IsCtl c → ((b : Bool) → may_be m b ≡ true → Gives g v b)
    → IsLeast (write_gate g) v c (record c { gate = m })
gate_least g m v c q k h =
    let some = some_within c k in
    let others = within c k in
    let i = least_in v q in
    record {
      bank_lo = record { old = some_banks c; byte = v.lo; within = some; stored = i; after = refl };
      bank_hi = record { old = _; byte = v.lo; within = others.bank c.bank_hi k.bank (omega arith); stored = i; after = refl };
      second_lo = record { old = some_banks c; byte = v.lo; within = some; stored = i; after = refl };
      second_hi = record { old = _; byte = v.lo; within = others.second c.second_hi k.second (omega arith); stored = i; after = refl };
      gate = λ b may. let x = h b may in record { old = some_banks c; byte = x.byte; within = some; stored = x.stored; after = x.is };
      mode = λ b may. record { old = _; byte = v.lo; within = others.mode b may; stored = i; after = refl };
    }

pub mode_least :
    (g : ℕ → Bool) (m : May) (v : Val) (c : Ctl) → IsVal v → IsCtl c → ((b : Bool) → may_be m b ≡ true → Gives g v b)
    → IsLeast (write_mode g) v c (record c { mode = m })
mode_least g m v c q k h =
    let some = some_within c k in
    let others = within c k in
    let i = least_in v q in
    record {
      bank_lo = record { old = some_banks c; byte = v.lo; within = some; stored = i; after = refl };
      bank_hi = record { old = _; byte = v.lo; within = others.bank c.bank_hi k.bank (omega arith); stored = i; after = refl };
      second_lo = record { old = some_banks c; byte = v.lo; within = some; stored = i; after = refl };
      second_hi = record { old = _; byte = v.lo; within = others.second c.second_hi k.second (omega arith); stored = i; after = refl };
      gate = λ b may. record { old = _; byte = v.lo; within = others.gate b may; stored = i; after = refl };
      mode = λ b may. let x = h b may in record { old = some_banks c; byte = x.byte; within = some; stored = x.stored; after = x.is };
    }

-- some byte gives a number
pub record Comes (g : ℕ → ℕ) (v : Val) (x : ℕ) : Type 0 where
  pub byte : ℕ
  pub stored : InBounds v byte
  pub is : g byte ≡ x

second_least :
    (g : ℕ → ℕ) (lo hi : ℕ) (v : Val) (c : Ctl) → IsVal v → IsCtl c → Comes g v lo → Comes g v hi
    → IsLeast (write_second g) v c (record c { second_lo = lo; second_hi = hi })
second_least g lo hi v c q k low high =
    let some = some_within c k in
    let others = within c k in
    let i = least_in v q in
    record {
      bank_lo = record { old = some_banks c; byte = v.lo; within = some; stored = i; after = refl };
      bank_hi = record { old = _; byte = v.lo; within = others.bank c.bank_hi k.bank (omega arith); stored = i; after = refl };
      second_lo = record { old = some_banks c; byte = low.byte; within = some; stored = low.stored; after = low.is };
      second_hi = record { old = some_banks c; byte = high.byte; within = some; stored = high.stored; after = high.is };
      gate = λ b may. record { old = _; byte = v.lo; within = others.gate b may; stored = i; after = refl };
      mode = λ b may. record { old = _; byte = v.lo; within = others.mode b may; stored = i; after = refl };
    }

-- some bank and some byte give a number
pub record ComesOf (g : ℕ → ℕ → ℕ) (c : Ctl) (v : Val) (x : ℕ) : Type 0 where
  pub bank : ℕ
  pub least : c.bank_lo ≤ bank
  pub most : bank ≤ c.bank_hi
  pub byte : ℕ
  pub stored : InBounds v byte
  pub is : g bank byte ≡ x

bank_least :
    (g : ℕ → ℕ → ℕ) (lo hi : ℕ) (v : Val) (c : Ctl) → IsVal v → IsCtl c → ComesOf g c v lo → ComesOf g c v hi
    → IsLeast (write_bank g) v c (record c { bank_lo = lo; bank_hi = hi })
bank_least g lo hi v c q k low high =
    let some = some_within c k in
    let others = within c k in
    let i = least_in v q in
    record {
      bank_lo = record { old = _; byte = low.byte; within = others.bank low.bank low.least low.most; stored = low.stored; after = low.is };
      bank_hi = record { old = _; byte = high.byte; within = others.bank high.bank high.least high.most; stored = high.stored; after = high.is };
      second_lo = record { old = some_banks c; byte = v.lo; within = some; stored = i; after = refl };
      second_hi = record { old = _; byte = v.lo; within = others.second c.second_hi k.second (omega arith); stored = i; after = refl };
      gate = λ b may. record { old = _; byte = v.lo; within = others.gate b may; stored = i; after = refl };
      mode = λ b may. record { old = _; byte = v.lo; within = others.mode b may; stored = i; after = refl };
    }

-- ---- each window

-- what the machine writes at each address of a window, as a change of one register
abbrev pub IsWrite : Kind → Window → (Banks → ℕ → Banks) → Type 0
IsWrite k w write = (a n : ℕ) (old : Banks) → w.first ≤ a → a ≤ w.last → n ≤ 255 → kind_after k old a n ≡ write old n

-- the registers after a store to a window
abbrev pub after_window : Kind → Option ControllerRegister → Val → Ctl → Ctl
after_window k None v c = c
after_window k (Some r) v c = ctl_after k r v c

-- what is kept after a store to a window, where that is known by register
abbrev pub kept_in : Option ControllerRegister → KeptBanks → KeptBanks
kept_in None k = k
kept_in (Some r) k = kept_but r k

-- a write leaves what is kept
abbrev pub Keeps : Kind → Option ControllerRegister → (Banks → ℕ → Banks) → Type 0
Keeps k o write = (kept : KeptBanks) (before old : Banks) (n : ℕ) → n ≤ 255 → KeepsBanks k kept before old → KeepsBanks k (kept_in o kept) before (write old n)

pub gate_keeps : (k : Kind) (g : ℕ → Bool) → Keeps k (Some register.Gate) (write_gate g)
gate_keeps k g kept before old n byte m = record { bank = m.bank; second = m.second; gate = λ e. absurd (cc); mode = m.mode; high_bank = m.high_bank }

pub mode_keeps : (k : Kind) (g : ℕ → Bool) → Keeps k (Some register.Mode) (write_mode g)
mode_keeps k g kept before old n byte m = record { bank = m.bank; second = m.second; gate = m.gate; mode = λ e. absurd (cc); high_bank = m.high_bank }

pub second_keeps : (k : Kind) (g : ℕ → ℕ) → Keeps k (Some register.Second) (write_second g)
second_keeps k g kept before old n byte m = record { bank = m.bank; second = λ e. absurd (cc); gate = m.gate; mode = m.mode; high_bank = m.high_bank }

pub mbc1_keeps : (g : ℕ → ℕ → ℕ) → Keeps kind.Mbc1 (Some register.Bank) (write_bank g)
mbc1_keeps g kept before old n byte m = record { bank = λ e. absurd (cc); second = m.second; gate = m.gate; mode = m.mode; high_bank = λ e. tt }

pub mbc3_keeps : (g : ℕ → ℕ → ℕ) → Keeps kind.Mbc3 (Some register.Bank) (write_bank g)
mbc3_keeps g kept before old n byte m = record { bank = λ e. absurd (cc); second = m.second; gate = m.gate; mode = m.mode; high_bank = λ e. tt }

pub nothing_keeps : (k : Kind) → Keeps k None (λ old n. old)
nothing_keeps k kept before old n byte m = m

-- a store to a window leaves registers within the bounds, and no smaller ones hold them; what is kept by the others stays so
pub record IsRight (k : Kind) (w : Window) : Type 0 where
  pub sound : (a n : ℕ) (v : Val) (c : Ctl) (old : Banks) → w.first ≤ a → a ≤ w.last → InCtl c old → InBounds v n → n ≤ 255 → InCtl (after_window k w.register v c) (kind_after k old a n)
  pub least : (a : ℕ) (v : Val) (c : Ctl) → w.first ≤ a → a ≤ w.last → IsVal v → IsCtl c → IsLeast (λ old n. kind_after k old a n) v c (after_window k w.register v c)
  pub keeps :
      (a n : ℕ) (kept : KeptBanks) (before old : Banks)
      → w.first ≤ a → a ≤ w.last → n ≤ 255 → KeepsBanks k kept before old → KeepsBanks k (kept_in w.register kept) before (kind_after k old a n)

leads_as :
    (f g : Banks → ℕ → Banks) (v : Val) (c : Ctl) (P : Banks → Type 0) → ((n : ℕ) (old : Banks) → n ≤ 255 → f old n ≡ g old n) → IsVal v
    → Leads g v c P → Leads f v c P
leads_as f g v c P e q l =
    let most = l.stored.most in
    let hi = q.hi in
    record {
      old = l.old;
      byte = l.byte;
      within = l.within;
      stored = l.stored;
      after = subst P (sym (e l.byte l.old (omega arith))) l.after;
    }

least_as :
    (f g : Banks → ℕ → Banks) (v : Val) (c after : Ctl) → ((n : ℕ) (old : Banks) → n ≤ 255 → f old n ≡ g old n) → IsVal v
    → IsLeast g v c after → IsLeast f v c after
least_as f g v c after e q l = record {
  bank_lo = leads_as f g v c (λ r. r.bank ≡ after.bank_lo) e q l.bank_lo;
  bank_hi = leads_as f g v c (λ r. r.bank ≡ after.bank_hi) e q l.bank_hi;
  second_lo = leads_as f g v c (λ r. r.second ≡ after.second_lo) e q l.second_lo;
  second_hi = leads_as f g v c (λ r. r.second ≡ after.second_hi) e q l.second_hi;
  gate = λ b may. leads_as f g v c (λ r. r.gate ≡ b) e q (l.gate b may);
  mode = λ b may. leads_as f g v c (λ r. r.mode ≡ b) e q (l.mode b may);
}

pub is_right :
    (k : Kind) (w : Window) (write : Banks → ℕ → Banks) → IsWrite k w write
    → ((v : Val) (c : Ctl) → IsSound write v c (after_window k w.register v c))
    → ((v : Val) (c : Ctl) → IsVal v → IsCtl c → IsLeast write v c (after_window k w.register v c)) → Keeps k w.register write → IsRight k w
is_right k w write e sound least keep = record {
  sound = λ a n v c old first last m i byte. subst (λ r. InCtl (after_window k w.register v c) r) (sym (e a n old first last byte)) ((sound v c).gives n old m i byte);
  least = λ a v c first last q k'. least_as (λ old n. kind_after k old a n) write v c (after_window k w.register v c) (λ n old byte. e a n old first last byte) q (least v c q k');
  keeps = λ a n kept before old first last byte m. subst (KeepsBanks k (kept_in w.register kept) before) (sym (e a n old first last byte)) (keep kept before old n byte m);
}

-- ---- the registers' new values

cut_comes : (n : ℕ) (v : Val) → 0 < n → IsVal v → Comes (λ x. x % n) v (cut_least n v.lo v.hi) × Comes (λ x. x % n) v (cut_most n v.lo v.hi)
cut_comes n v pos q =
    let low = cut_least-reached n v.lo v.hi pos q.order in
    let high = cut_most-reached n v.lo v.hi pos q.order in (
      record { byte = low.number; stored = record { least = low.least; most = low.most }; is = low.is },
      record { byte = high.number; stored = record { least = high.least; most = high.most }; is = high.is },
    )

at_least_one-mono : (a b : ℕ) → a ≤ b → at_least_one a ≤ at_least_one b
at_least_one-mono a b h = grind (arith, nat_tests)

pub bank_cut_sound : (n : ℕ) (v : Val) (c : Ctl) → 0 < n → IsSound (write_bank (λ b x. at_least_one (x % n))) v c (bank_after n v c)
bank_cut_sound n v c pos =
    bank_sound (λ b x. at_least_one (x % n)) (at_least_one (cut_least n v.lo v.hi)) (at_least_one (cut_most n v.lo v.hi)) v c
    (λ b x lo hi i. let h = cut_holds n v.lo v.hi x pos i.least i.most in (at_least_one-mono _ _ h.least_le, at_least_one-mono _ _ h.le_most))

pub bank_cut_least : (n : ℕ) (v : Val) (c : Ctl) → 0 < n → IsVal v → IsCtl c → IsLeast (write_bank (λ b x. at_least_one (x % n))) v c (bank_after n v c)
bank_cut_least n v c pos q k =
    let ends = cut_comes n v pos q in
    let low = ends.0 in
    let high = ends.1 in
    bank_least (λ b x. at_least_one (x % n)) (at_least_one (cut_least n v.lo v.hi)) (at_least_one (cut_most n v.lo v.hi)) v c q k
    (record { bank = c.bank_lo; least = omega arith; most = k.bank; byte = low.byte; stored = low.stored; is = ap at_least_one low.is })
    (record { bank = c.bank_lo; least = omega arith; most = k.bank; byte = high.byte; stored = high.stored; is = ap at_least_one high.is })

abbrev pub low_written : ℕ → ℕ → ℕ
low_written b n = b / 256 * 256 + n

pub low_sound : (v : Val) (c : Ctl) → IsSound (write_bank low_written) v c (low_bank_after v c)
low_sound v c =
    bank_sound low_written (low_written c.bank_lo v.lo) (low_written c.bank_hi v.hi) v c
    (λ b x lo hi i. let least = i.least in let most = i.most in (omega arith, omega arith))

pub low_least : (v : Val) (c : Ctl) → IsVal v → IsCtl c → IsLeast (write_bank low_written) v c (low_bank_after v c)
low_least v c q k =
    bank_least low_written (low_written c.bank_lo v.lo) (low_written c.bank_hi v.hi) v c q k
    (record { bank = c.bank_lo; least = omega arith; most = k.bank; byte = v.lo; stored = least_in v q; is = refl })
    (record { bank = c.bank_hi; least = k.bank; most = omega arith; byte = v.hi; stored = record { least = q.order; most = omega arith }; is = refl })

abbrev pub high_written : ℕ → ℕ → ℕ
high_written b n = n % 2 * 256 + b % 256

pub high_sound : (v : Val) (c : Ctl) → IsSound (write_bank high_written) v c (high_bank_after v c)
high_sound v c =
    bank_sound high_written (cut_least 2 v.lo v.hi * 256 + cut_least 256 c.bank_lo c.bank_hi) (cut_most 2 v.lo v.hi * 256 + cut_most 256 c.bank_lo c.bank_hi) v c
    (λ b x lo hi i.
    let bit = cut_holds 2 v.lo v.hi x (omega arith) i.least i.most in
    let low = cut_holds 256 c.bank_lo c.bank_hi b (omega arith) lo hi in
    let p = bit.least_le in
    let q = bit.le_most in
    let r = low.least_le in
    let s = low.le_most in
    (omega arith, omega arith))

-- bit 8 is stored where the low eight bits have bounds of their own
pub high_half_sound : (v : Val) (c : Ctl) (old : Banks) (n : ℕ) → InHalves kind.Mbc5 c old → InBounds v n → InHalves kind.Mbc5 (high_half_after v c) (write_bank high_written old n)
unfolding low_bank_least low_bank_most
high_half_sound v c old n m i =
    let bit = cut_holds 2 v.lo v.hi n (omega arith) i.least i.most in
    let p = bit.least_le in
    let q = bit.le_most in
    let low = m.low.0 in
    let high = m.low.1 in
    let ordered : nat_le (c.bank_lo % 256) (c.bank_hi % 256) ≡ true = grind (arith, nat_tests) in
    let least : low_bank_least c ≡ c.bank_lo % 256 = rw ordered refl in
    let most : low_bank_most c ≡ c.bank_hi % 256 = rw ordered refl in
    let bit_lo = cut_least 2 v.lo v.hi in
    let bit_hi = cut_most 2 v.lo v.hi in
    record {
      within = record {
        bank_least = rw least (omega arith);
        bank_most = rw most (omega arith);
        second_least = m.within.second_least;
        second_most = m.within.second_most;
        gate = m.within.gate;
        mode = m.within.mode;
      };
      low = (rw least (omega arith), rw most (omega arith));
    }

pub high_least : (v : Val) (c : Ctl) → IsVal v → IsCtl c → IsLeast (write_bank high_written) v c (high_bank_after v c)
high_least v c q k =
    let bits = cut_comes 2 v (omega arith) q in
    let bit = bits.0 in
    let bit' = bits.1 in
    let low = cut_least-reached 256 c.bank_lo c.bank_hi (omega arith) k.bank in
    let high = cut_most-reached 256 c.bank_lo c.bank_hi (omega arith) k.bank in
    bank_least high_written (cut_least 2 v.lo v.hi * 256 + cut_least 256 c.bank_lo c.bank_hi) (cut_most 2 v.lo v.hi * 256 + cut_most 256 c.bank_lo c.bank_hi) v c q k
    (record { bank = low.number; least = low.least; most = low.most; byte = bit.byte; stored = bit.stored; is = let e = bit.is in let f = low.is in omega arith })
    (record { bank = high.number; least = high.least; most = high.most; byte = bit'.byte; stored = bit'.stored; is = let e = bit'.is in let f = high.is in omega arith })

pub second_cut_sound : (n : ℕ) (v : Val) (c : Ctl) → 0 < n → IsSound (write_second (λ x. x % n)) v c (second_after n v c)
second_cut_sound n v c pos =
    second_sound (λ x. x % n) (cut_least n v.lo v.hi) (cut_most n v.lo v.hi) v c
    (λ x i byte. let h = cut_holds n v.lo v.hi x pos i.least i.most in (h.least_le, h.le_most))

pub second_cut_least : (n : ℕ) (v : Val) (c : Ctl) → 0 < n → IsVal v → IsCtl c → IsLeast (write_second (λ x. x % n)) v c (second_after n v c)
second_cut_least n v c pos q k =
    let ends = cut_comes n v pos q in
    second_least (λ x. x % n) (cut_least n v.lo v.hi) (cut_most n v.lo v.hi) v c q k ends.0 ends.1

-- ---- the bounds and sets are such as a certificate has

value_from : (m : May) (b : Bool) → may_be m b ≡ true → has_value m ≡ true
value_from m true h = grind (arith, nat_tests)
value_from m false h = grind (arith, nat_tests)

values_small : (k : Kind) → (0 < bank_values k) × (bank_values k ≤ 128) × (0 < second_values k) × (second_values k ≤ 256)
values_small kind.Rom = (omega arith, omega arith, omega arith, omega arith)
values_small kind.Mbc1 = (omega arith, omega arith, omega arith, omega arith)
values_small kind.Mbc3 = (omega arith, omega arith, omega arith, omega arith)
values_small kind.Mbc5 = (omega arith, omega arith, omega arith, omega arith)

bank_valid : (c : Ctl) (lo hi : ℕ) → IsCtl c → lo ≤ hi → hi ≤ 511 → IsCtl (record c { bank_lo = lo; bank_hi = hi })
bank_valid c lo hi q order most = record {
  bank = order;
  bank_hi = most;
  second = q.second;
  second_hi = q.second_hi;
  gate = q.gate;
  mode = q.mode;
}

pub ctl_after-valid : (k : Kind) (r : ControllerRegister) (v : Val) (c : Ctl) → IsVal v → IsCtl c → IsCtl (ctl_after k r v c)
unfolding ctl_after
ctl_after-valid k register.Gate v c p q = record {
  bank = q.bank;
  bank_hi = q.bank_hi;
  second = q.second;
  second_hi = q.second_hi;
  gate = value_from (gate_after v) _ (gate_holds v v.lo (least_in v p));
  mode = q.mode;
}
ctl_after-valid k register.Bank v c p q =
    let small = values_small k in
    let below = cut_most-below (bank_values k) v.lo v.hi small.0 in
    let few = small.1 in
    let most : at_least_one (cut_most (bank_values k) v.lo v.hi) ≤ 511 = grind (arith, nat_tests) in
    bank_valid c _ _ q (at_least_one-mono _ _ (cut_order (bank_values k) v.lo v.hi small.0 p.order)) most
ctl_after-valid k register.LowBank v c p q =
    let order = p.order in
    let hi = p.hi in
    let banks = q.bank in
    let most = q.bank_hi in
    bank_valid c _ _ q (omega arith) (omega arith)
ctl_after-valid k register.HighBank v c p q =
    let bit = cut_most-below 2 v.lo v.hi (omega arith) in
    let low = cut_most-below 256 c.bank_lo c.bank_hi (omega arith) in
    let first = cut_order 2 v.lo v.hi (omega arith) p.order in
    let second = cut_order 256 c.bank_lo c.bank_hi (omega arith) q.bank in
    bank_valid c _ _ q (omega arith) (omega arith)
ctl_after-valid k register.Second v c p q =
    let small = values_small k in
    let below = cut_most-below (second_values k) v.lo v.hi small.2 in
    let few = small.3 in
    record {
      bank = q.bank;
      bank_hi = q.bank_hi;
      second = cut_order (second_values k) v.lo v.hi small.2 p.order;
      second_hi = omega arith;
      gate = q.gate;
      mode = q.mode;
    }
ctl_after-valid k register.Mode v c p q = record {
  bank = q.bank;
  bank_hi = q.bank_hi;
  second = q.second;
  second_hi = q.second_hi;
  gate = q.gate;
  mode = value_from (mode_after v) _ (mode_holds v v.lo (least_in v p));
}

pub low_keeps : Keeps kind.Mbc5 (Some register.LowBank) (write_bank low_written)
low_keeps kept before old n byte m = record { bank = λ e. absurd (cc); second = m.second; gate = m.gate; mode = m.mode; high_bank = λ e. let h = m.high_bank e in omega arith }

pub high_keeps : Keeps kind.Mbc5 (Some register.HighBank) (write_bank high_written)
high_keeps kept before old n byte m = record { bank = λ e. let h = m.bank e in omega arith; second = m.second; gate = m.gate; mode = m.mode; high_bank = λ e. absurd (cc) }

-- the ends of the low eight bits are bytes in order
pub low_ends_small : (c : Ctl) → (low_bank_least c ≤ low_bank_most c) × (low_bank_most c ≤ 255)
unfolding low_bank_least low_bank_most
low_ends_small c = (grind (arith, nat_tests), grind (arith, nat_tests))

pub high_half-valid : (v : Val) (c : Ctl) → IsVal v → IsCtl c → IsCtl (high_half_after v c)
high_half-valid v c p q =
    let bit = cut_most-below 2 v.lo v.hi (omega arith) in
    let first = cut_order 2 v.lo v.hi (omega arith) p.order in
    let small = low_ends_small c in
    let order = small.0 in
    let most = small.1 in
    bank_valid c _ _ q (omega arith) (omega arith)

ctl_by-valid : (whole : Bool) (k : Kind) (r : ControllerRegister) (v : Val) (c : Ctl) → IsVal v → IsCtl c → IsCtl (ctl_by whole k r v c)
unfolding ctl_by
ctl_by-valid whole k r v c p q = choose (whole && is_high r)
  where
    choose : (b : Bool) → IsCtl (cond b (high_half_after v c) (ctl_after k r v c))
    choose true = high_half-valid v c p q
    choose false = ctl_after-valid k r v c p q

pub ctl_written-valid : (whole : Bool) (k : Kind) (r : ControllerRegister) (v : Val) (c : Ctl) → IsVal v → IsCtl c → IsCtl (ctl_written whole k r v c)
ctl_written-valid whole k r v c p q =
    let h = ctl_by-valid whole k r v c p q in
    record { bank = h.bank; bank_hi = h.bank_hi; second = h.second; second_hi = h.second_hi; gate = h.gate; mode = h.mode }
