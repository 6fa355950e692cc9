-- Reads and writes of an instruction that nothing refuses: no fault, and what is known of them is what happens.
use Rattle.std.proofs.Common.{◌≡◌, ℕ, ◌+◌, ◌%◌, ◌/◌, ◌≤◌, ◌<◌, Bool, true, false, not, ◌&&◌, ◌||◌, ◌==◌, nat_le, ◌⊎◌, List, length, slice_index, refl, sym, ◌∙◌, ap, subst, arith}
use Rattle.std.proofs.lemmas.Bool.{not-false, eqb-true}
use Rattle.std.proofs.lemmas.Bool.Decides.{nat_tests}
use Rattle.gb_ops.specs.declared.machine.Region.{Region}
use Rattle.gb_ops.specs.declared.machine.Read.{Read}
use Rattle.gb_ops.specs.declared.machine.Read.TheVariants as machine_read
use Rattle.gb_ops.specs.declared.machine.Write.{Write}
use Rattle.gb_ops.specs.declared.machine.Write.TheVariants as machine_write
use Rattle.gb_ops.specs.Cartridge.{kind_of}
use Rattle.gb_ops.specs.Memory.{View, wrote, stored}
use Rattle.gb_ops.specs.Machine.{loaded}
use Rattle.gb_ops.specs.Faults.{no_faults, either_faults, write_faults, load_faults, store_faults}
use Rattle.gb_ops.specs.Play.{MState}
use Rattle.gb_domain.specs.declared.rules.Rules.TheVariants.{Simple}
use Rattle.gb_domain.specs.declared.setting.Setting.{Setting}
use Rattle.gb_domain.specs.Settings.{IsBase}
use Rattle.gb_domain.specs.declared.types.Val.{Val}
use Rattle.gb_domain.specs.declared.types.Core.{Core}
use Rattle.gb_domain.specs.declared.types.Halves.{Halves}
use Rattle.gb_domain.specs.declared.types.Range.{Range}
use Rattle.gb_domain.specs.Types.{AbsState}
use Rattle.gb_domain.specs.Areas.{IsRegion}
use Rattle.gb_domain.specs.Rules.{IsVal}
use Rattle.gb_product.specs.Below.gb_vals.Vals.{any_val}
use Rattle.gb_product.specs.Below.gb_abs.declared.span.Span.{Span}
use Rattle.gb_product.specs.Below.gb_abs.Span.{IsIn, one}
use Rattle.gb_product.proofs.Below.gb_abs_laws.SpanLaws.{IsIn-alone}
use Rattle.gb_product.specs.Below.gb_abs.Storage.{peek}
use Rattle.gb_product.specs.Below.gb_abs.Cells.{ArePlaced}
use Rattle.gb_product.specs.Below.gb_abs.Stack.{AreInRegion}
use Rattle.gb_product.specs.Below.gb_abs.Meaning.{Activation, Holds, MeansParts}
use Rattle.gb_product.specs.Below.gb_abs_effects.declared.reads.AbsRead.{AbsRead}
use Rattle.gb_product.specs.Below.gb_abs_effects.declared.reads.AbsRead.TheVariants as read
use Rattle.gb_product.specs.Below.gb_abs_effects.declared.writes.AbsWrite.{AbsWrite}
use Rattle.gb_product.specs.Below.gb_abs_effects.declared.writes.AbsWrite.TheVariants as write
use Rattle.gb_product.specs.Below.gb_abs_effects.Sound.{HoldsRead, HoldsWrite, IsWrite}
use Rattle.gb_abs_memory.specs.Windows.{known_kind}
use Rattle.gb_abs_memory.specs.declared.store.Stored.{Stored}
use Rattle.gb_abs_memory.specs.Access.{is_storable, may_be_closed, meets_closed_ram, may_copy_closed_ram, store_meets_closed_ram, is_limited, is_store_limited, stored_state, starts_oam_transfer}
use Rattle.gb_abs_memory.specs.Sound.{IsRom, IsStored, view}
use Rattle.gb_abs_memory.proofs.LoadLaws.{IsLoaded-loaded_val}
use Rattle.gb_abs_memory.proofs.StoreLaws.{IsSoundStore-stored_state, stored-view}
use Rattle.gb_abs_memory.proofs.AfterStoreLaws.{is_store_limited-stored, store_meets_closed_ram-stored}
use Rattle.gb_successors.specs.Behind.{behind, written, starts}
use Rattle.gb_successors.specs.Loads.{read_word}
use Rattle.gb_successors.specs.Refused.{is_unstorable, reads_closed_ram, writes_closed_ram, is_stack_limited, is_read_limited, is_write_limited}
use Rattle.gb_abs_memory.specs.Kept.{IsKept}
use Rattle.gb_product.specs.Below.gb_relations.Sound.{Writes}
use Rattle.gb_product.specs.Held.{stack_held}
use Rattle.gb_domain.specs.declared.places.StackBytes.{StackBytes}
use Rattle.gb_successors.proofs.RamLaws.{ram_at, ram_same, differs, wrote_ram}
use Rattle.gb_successors.proofs.PlainLaws.{Keeps, IsPlainRead, IsPlainWrite}

-- ---- the tests ask the controller and the bound alone

pub closed_same : (rom : List ℕ) (s c : Core) (what : AbsRead) → Keeps s c → reads_closed_ram rom c what ≡ reads_closed_ram rom s what
unfolding reads_closed_ram meets_closed_ram may_be_closed
closed_same rom s c read.Nothing k = refl
closed_same rom s c (read.Byte span) k = rw k.ctl refl
closed_same rom s c (read.Word span) k = rw k.ctl refl
closed_same rom s c read.Top k = refl

pub limited_same : (region : Region) (s c : Core) (what : AbsRead) → Keeps s c → is_read_limited region c what ≡ is_read_limited region s what
unfolding is_read_limited is_limited is_stack_limited
limited_same region s c read.Nothing k = refl
limited_same region s c (read.Byte span) k = rw k.bound refl
limited_same region s c (read.Word span) k = rw k.bound refl
limited_same region s c read.Top k = rw k.bound refl

-- the gate and the bound are the same
pub record IsSameGate (s c : Core) : Type 0 where
  pub ctl : c.ctl ≡ s.ctl
  pub bound : c.bound ≡ s.bound

pub writes_same : (rom : List ℕ) (s c : Core) (w : AbsWrite) → IsSameGate s c → writes_closed_ram rom c w ≡ writes_closed_ram rom s w
unfolding writes_closed_ram store_meets_closed_ram meets_closed_ram may_copy_closed_ram may_be_closed
writes_same rom s c write.Nothing k = refl
writes_same rom s c (write.Byte span v) k = rw k.ctl refl
writes_same rom s c (write.Word a low high) k = rw k.ctl refl
writes_same rom s c (write.Push high low) k = refl

pub write_limited_same : (region : Region) (s c : Core) (w : AbsWrite) → IsSameGate s c → is_write_limited region c w ≡ is_write_limited region s w
unfolding is_write_limited is_store_limited is_limited is_stack_limited
write_limited_same region s c write.Nothing k = refl
write_limited_same region s c (write.Byte span v) k = rw k.bound refl
write_limited_same region s c (write.Word a low high) k = rw k.bound refl
write_limited_same region s c (write.Push high low) k = rw k.bound refl

-- no OAM transfer closes the stack region
pub clear_stack : (region : Region) (core : Core) → is_stack_limited region core ≡ false → (core.bound ≡ 0) ⊎ (0xFF80 ≤ region.first)
unfolding is_stack_limited
clear_stack region core h = by core.bound region.first h
  where
    by : (n first : ℕ) → (not (n == 0) && not (nat_le 0xFF80 first)) ≡ false → (n ≡ 0) ⊎ (0xFF80 ≤ first)
    by n first h = grind (arith, nat_tests)

-- ---- reads

any_holds : (entry : Activation) (n : ℕ) → n ≤ 255 → Holds any_val entry n
any_holds entry n h = record { least = omega arith; most = h; low = refl; origin = λ o e. cc }

-- a word stands for what an instruction reads, without a fault
pub record Loads (w : Halves) (entry : Activation) (m : View) (r : Read) (reads : List ℕ) : Type 0 where
  pub low : Holds w.low entry (loaded m r reads).low
  pub high : Holds w.high entry (loaded m r reads).high
  pub faults : load_faults m r ≡ no_faults

in_span : (span : Span) (a : ℕ) → IsIn span a → span.last < 65536 → a < 65536
in_span span a i h =
    let most = i.last in
    omega arith

pub Loads-read :
    (z : Setting) (rom : List ℕ) (region : Region) (s : AbsState) (entry : Activation) (base : ℕ) (x : MState) (reads : List ℕ) (sp : ℕ) (what : AbsRead) (r : Read) → IsRom rom → IsBase z base → MeansParts s entry base x → IsVal s.core.ie
    → slice_index reads 0 ≤ 255 → IsPlainRead what → HoldsRead what sp r → reads_closed_ram rom s.core what ≡ false → is_read_limited region s.core what ≡ false
    → Loads (read_word z rom s what) entry (view rom x false) r reads
unfolding read_word loaded load_faults reads_closed_ram is_read_limited
Loads-read z rom region s entry base x reads sp read.Nothing machine_read.Nothing c right m ie byte plain h ram limited =
    record { low = any_holds entry 0 (omega arith); high = any_holds entry 0 (omega arith); faults = refl }
Loads-read z rom region s entry base x reads sp (read.Byte span) (machine_read.Byte a) c right m ie byte plain h ram limited =
    let l = IsLoaded-loaded_val z rom s span entry base x false a reads ram limited h (in_span span a h plain) right m ie c byte in
    record { low = l.holds; high = any_holds entry 0 (omega arith); faults = l.faults }
Loads-read z rom region s entry base x reads sp read.Top r c right m ie byte plain h ram limited = absurd plain
Loads-read z rom region s entry base x reads sp (read.Word span) r c right m ie byte plain h ram limited = absurd plain
Loads-read z rom region s entry base x reads sp read.Nothing (machine_read.Byte a) c right m ie byte plain h ram limited = absurd h
Loads-read z rom region s entry base x reads sp read.Nothing (machine_read.Word a) c right m ie byte plain h ram limited = absurd h
Loads-read z rom region s entry base x reads sp (read.Byte span) machine_read.Nothing c right m ie byte plain h ram limited = absurd h
Loads-read z rom region s entry base x reads sp (read.Byte span) (machine_read.Word a) c right m ie byte plain h ram limited = absurd h

-- ---- writes

-- a word is written a byte at a time, the low one first
abbrev pub WritesInTurn : StackBytes → Write → (ℕ → ℕ) → (ℕ → ℕ) → Type 0
WritesInTurn held (machine_write.Word a w) memory after =
    (middle : ℕ → ℕ) × Writes held (machine_write.Byte a (w % 256)) memory middle × Writes held (machine_write.Byte ((a + 1) % 65536) (w / 256)) middle after
WritesInTurn held w memory after = Writes held w memory after

-- what an instruction writes, without a fault
pub record Stores (z : Setting) (rom : List ℕ) (region : Region) (ranges : List Range) (s : AbsState) (w : AbsWrite) (entry : Activation) (base : ℕ) (x : MState) (m : View) (mw : Write) : Type 0 where
  pub means : MeansParts (written z region (kind_of rom) w s) entry base (record x { storage = (stored m mw).storage })
  pub count : length (written z region (kind_of rom) w s).items ≡ length s.items
  pub items : z.rules ≡ Simple → (written z region (kind_of rom) w s).items ≡ s.items
  pub starting : (stored m mw).starting ≡ starts w
  pub faults : store_faults region m mw ≡ no_faults
  pub kept : (b : ℕ) → IsKept z region ranges base b → peek (stored m mw).storage b ≡ peek x.storage b
  pub writes : Writes (stack_held z region (length s.items)) mw (ram_at x.storage) (ram_at (stored m mw).storage)
  pub in_turn : WritesInTurn (stack_held z region (length s.items)) mw (ram_at x.storage) (ram_at (stored m mw).storage)

-- the state at a store, and where it may be
pub record AtWrite (z : Setting) (region : Region) (s : AbsState) (entry : Activation) (base : ℕ) (x : MState) : Type 0 where
  pub means : MeansParts s entry base x
  pub placed : ArePlaced region s.cells
  pub room : AreInRegion region base (length s.items)
  pub is_region : IsRegion region
  pub based : IsBase z base

-- a byte that is kept isn't stored to
is_other : (z : Setting) (m : View) (a n : ℕ) (region : Region) (ranges : List Range) (s : AbsState) (entry : Activation) (base : ℕ) (x : MState) (o : Stored) (b : ℕ)
    → IsStored z m a n region ranges s entry base x o → IsKept z region ranges base b → (b == a) ≡ false
is_other z m a n region ranges s entry base x o b st k = choose (b == a) refl
  where
    choose : (t : Bool) → (b == a) ≡ t → (b == a) ≡ false
    choose true e =
        let same : b ≡ a = eqb-true b a e in
        absurd (st.spared (subst (IsKept z region ranges base) same k))
    choose false e = e

store_one :
    (z : Setting) (rom : List ℕ) (region : Region) (ranges : List Range) (s : AbsState) (span : Span) (v : Val) (entry : Activation) (base : ℕ) (x : MState) (starting : Bool) (a n : ℕ) → AtWrite z region s entry base x → entry.program.kind ≡ known_kind z.is_whole (kind_of rom)
    → is_storable z (kind_of rom) region ranges span ≡ true → store_meets_closed_ram rom s.core span v ≡ false → is_store_limited s.core span ≡ false
    → IsIn span a → a < 65536 → Holds v entry n → n ≤ 255 → v.hi ≤ 255
    → IsStored z (view rom x starting) a n region ranges s entry base x (record { state = stored_state z region (kind_of rom) span v s; starts = starts_oam_transfer span })
store_one z rom region ranges s span v entry base x starting a n w kind storable ram limited i lt h le hi =
    (IsSoundStore-stored_state z rom region ranges s span v storable ram limited).gives entry base x starting a n w.based kind w.means w.placed w.room w.is_region i lt h le hi

or_false : (b c : Bool) → (b || c) ≡ false → (b ≡ false) × (c ≡ false)
or_false true c h = cc
or_false false c h = (refl, h)

at_one : (a : ℕ) → IsIn (one a) a
at_one a = IsIn-alone a

Stores-byte :
    (z : Setting) (rom : List ℕ) (region : Region) (ranges : List Range) (s : AbsState) (span : Span) (v : Val) (entry : Activation) (base : ℕ) (x : MState) (a n : ℕ) → AtWrite z region s entry base x → entry.program.kind ≡ known_kind z.is_whole (kind_of rom)
    → is_storable z (kind_of rom) region ranges span ≡ true → store_meets_closed_ram rom s.core span v ≡ false → is_store_limited s.core span ≡ false
    → IsIn span a → a < 65536 → Holds v entry n → n ≤ 255 → v.hi ≤ 255
    → Stores z rom region ranges s (write.Byte span v) entry base x (view rom x false) (machine_write.Byte a n)
unfolding written starts stored store_faults
Stores-byte z rom region ranges s span v entry base x a n w kind storable ram limited i lt h le hi =
    let st = store_one z rom region ranges s span v entry base x false a n w kind storable ram limited i lt h le hi in
    record {
      means = st.means;
      count = st.count;
      items = st.items;
      starting = st.starting;
      faults = st.faults;
      kept = λ b k. st.others b k.ram (is_other z _ a n region ranges s entry base x _ b st k);
      writes = (
        λ ram. wrote_ram (view rom x false) a n w.means.memory ram le st.faults,
        λ b ne. ram_same x.storage _ b (λ ram. st.others b ram (differs b a ne)),
      );
      in_turn = (
        λ ram. wrote_ram (view rom x false) a n w.means.memory ram le st.faults,
        λ b ne. ram_same x.storage _ b (λ ram. st.others b ram (differs b a ne)),
      );
    }

highest_byte : (v : Val) → IsVal v → v.hi ≤ 255
highest_byte v is =
    let hi = is.hi in
    omega arith

word_byte : (v : Val) (entry : Activation) (n : ℕ) → IsVal v → Holds v entry n → n ≤ 255
word_byte v entry n is h =
    let most = h.most in
    let hi = is.hi in
    omega arith

Stores-word :
    (z : Setting) (rom : List ℕ) (region : Region) (ranges : List Range) (s : AbsState) (a : ℕ) (low high : Val) (entry : Activation) (base : ℕ) (x : MState) (n : ℕ) → AtWrite z region s entry base x → entry.program.kind ≡ known_kind z.is_whole (kind_of rom)
    → is_storable z (kind_of rom) region ranges (one a) ≡ true → is_storable z (kind_of rom) region ranges (one (behind a)) ≡ true
    → store_meets_closed_ram rom s.core (one a) low ≡ false → store_meets_closed_ram rom s.core (one (behind a)) high ≡ false
    → is_store_limited s.core (one a) ≡ false → is_store_limited s.core (one (behind a)) ≡ false
    → a < 65536 → IsVal low → IsVal high → Holds low entry (n % 256) → Holds high entry (n / 256)
    → Stores z rom region ranges s (write.Word a low high) entry base x (view rom x false) (machine_write.Word a n)
unfolding written starts stored store_faults either_faults
Stores-word z rom region ranges s a low high entry base x n w kind here there ram_here ram_there clear_here clear_there lt is_low is_high l h =
    let first = store_one z rom region ranges s (one a) low entry base x false a (n % 256) w kind here ram_here clear_here (at_one a) lt l (word_byte low entry _ is_low l) (highest_byte low is_low) in
    let y : MState = record x { storage = (wrote (view rom x false) a (n % 256)).storage } in
    let middle : AbsState = stored_state z region (kind_of rom) (one a) low s in
    let begun : Bool = starts_oam_transfer (one a) in
    let seen : wrote (view rom x false) a (n % 256) ≡ view rom y begun = stored-view z rom region ranges s entry base x false a (n % 256) _ first in
    let second = store_one z rom region ranges middle (one (behind a)) high entry base y begun (behind a) (n / 256)
    (record {
      means = first.means;
      placed = first.placed;
      room = subst (AreInRegion region base) (sym first.count) w.room;
      is_region = w.is_region;
      based = w.based;
    })
    kind there
    (store_meets_closed_ram-stored z rom region (kind_of rom) a low s high ∙ ram_there)
    (is_store_limited-stored z region (kind_of rom) (one a) (one (behind a)) low s ∙ clear_there)
    (at_one (behind a)) (omega arith) h (word_byte high entry _ is_high h) (highest_byte high is_high) in
    record {
      means = subst (λ (m : View). MeansParts (stored_state z region (kind_of rom) (one (behind a)) high middle) entry base (record x { storage = (wrote m (behind a) (n / 256)).storage })) (sym seen) second.means;
      count = second.count ∙ first.count;
      items = λ h. second.items h ∙ first.items h;
      starting = ap (λ (m : View). (wrote m (behind a) (n / 256)).starting) seen ∙ second.starting;
      faults = rw (first.faults, ap (λ (m : View). write_faults m (behind a) (n / 256)) seen ∙ second.faults) refl;
      kept = λ b k.
          ap (λ (m : View). peek (wrote m (behind a) (n / 256)).storage b) seen
          ∙ (second.others b k.ram (is_other z _ (behind a) (n / 256) region ranges middle entry base y _ b second k)
          ∙ first.others b k.ram (is_other z _ a (n % 256) region ranges s entry base x _ b first k));
      writes = λ b ne more.
          ram_same x.storage _ b
          (λ ram.
          ap (λ (m : View). peek (wrote m (behind a) (n / 256)).storage b) seen
          ∙ (second.others b ram (differs b (behind a) more) ∙ first.others b ram (differs b a ne)));
      in_turn = (
        ram_at y.storage,
        (
          λ ram. wrote_ram (view rom x false) a (n % 256) w.means.memory ram (word_byte low entry _ is_low l) first.faults,
          λ b ne. ram_same x.storage y.storage b (λ ram. first.others b ram (differs b a ne)),
        ),
        (
          λ ram.
              ap (λ (m : View). ram_at (wrote m (behind a) (n / 256)).storage (behind a)) seen
              ∙ wrote_ram (view rom y begun) (behind a) (n / 256) first.means.memory ram (word_byte high entry _ is_high h) second.faults,
          λ b ne.
              ram_same y.storage _ b
              (λ ram. ap (λ (m : View). peek (wrote m (behind a) (n / 256)).storage b) seen ∙ second.others b ram (differs b (behind a) ne)),
        ),
      );
    }

pub Stores-write :
    (z : Setting) (rom : List ℕ) (region : Region) (ranges : List Range) (s : AbsState) (entry : Activation) (base : ℕ) (x : MState) (sp : ℕ) (w : AbsWrite) (mw : Write) → AtWrite z region s entry base x → entry.program.kind ≡ known_kind z.is_whole (kind_of rom)
    → IsPlainWrite w → IsWrite w → HoldsWrite w entry sp mw → is_unstorable z (kind_of rom) region ranges w ≡ false → writes_closed_ram rom s.core w ≡ false → is_write_limited region s.core w ≡ false
    → Stores z rom region ranges s w entry base x (view rom x false) mw
unfolding written starts stored store_faults is_unstorable writes_closed_ram is_write_limited
Stores-write z rom region ranges s entry base x sp write.Nothing machine_write.Nothing at kind plain is h allowed ram limited =
    record { means = at.means; count = refl; items = λ e. refl; starting = refl; faults = refl; kept = λ b k. refl; writes = λ b. refl; in_turn = λ b. refl }
Stores-write z rom region ranges s entry base x sp (write.Byte span v) (machine_write.Byte a n) at kind plain is h allowed ram limited =
    Stores-byte z rom region ranges s span v entry base x a n at kind (not-false _ allowed) ram limited h.0 (in_span span a h.0 plain) h.1 h.2 (highest_byte v is)
Stores-write z rom region ranges s entry base x sp (write.Word a low high) (machine_write.Word b n) at kind plain is h allowed ram limited =
    let stores = or_false _ _ allowed in
    let rams = or_false _ _ ram in
    let clear = or_false _ _ limited in
    subst (λ c. Stores z rom region ranges s (write.Word a low high) entry base x (view rom x false) (machine_write.Word c n)) (sym h.0)
    (Stores-word z rom region ranges s a low high entry base x n at kind (not-false _ stores.0) (not-false _ stores.1) rams.0 rams.1 clear.0 clear.1 plain is.0 is.1 h.1 h.2)
Stores-write z rom region ranges s entry base x sp (write.Push high low) mw at kind plain is h allowed ram limited = absurd plain
Stores-write z rom region ranges s entry base x sp write.Nothing (machine_write.Byte a n) at kind plain is h allowed ram limited = absurd h
Stores-write z rom region ranges s entry base x sp write.Nothing (machine_write.Word a n) at kind plain is h allowed ram limited = absurd h
Stores-write z rom region ranges s entry base x sp write.Nothing (machine_write.Push a n) at kind plain is h allowed ram limited = absurd h
Stores-write z rom region ranges s entry base x sp (write.Byte span v) machine_write.Nothing at kind plain is h allowed ram limited = absurd h
Stores-write z rom region ranges s entry base x sp (write.Byte span v) (machine_write.Word a n) at kind plain is h allowed ram limited = absurd h
Stores-write z rom region ranges s entry base x sp (write.Byte span v) (machine_write.Push a n) at kind plain is h allowed ram limited = absurd h
Stores-write z rom region ranges s entry base x sp (write.Word a low high) machine_write.Nothing at kind plain is h allowed ram limited = absurd h
Stores-write z rom region ranges s entry base x sp (write.Word a low high) (machine_write.Byte b n) at kind plain is h allowed ram limited = absurd h
Stores-write z rom region ranges s entry base x sp (write.Word a low high) (machine_write.Push b n) at kind plain is h allowed ram limited = absurd h
