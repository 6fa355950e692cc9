-- Registers that are written, and which of them are among places.
use Rattle.std.proofs.Common.{◌≡◌, ℕ, Bool, true, false, refl, sym, ◌∙◌, subst}
use Rattle.gb_ops.specs.declared.op.Register.{Register}
use Rattle.gb_ops.specs.declared.op.Register.TheVariants.{A, B, C, D, E, H, L}
use Rattle.gb_ops.specs.declared.registers.Registers.{Registers}
use Rattle.gb_ops.specs.Registers.{get, set}
use Rattle.gb_domain.specs.Places.{no_place}
use Rattle.gb_domain.proofs.RegisterLaws.{set_same}

pub not_so : {X : Type 0} → false ≡ true → X
not_so h = cc

-- what holds of each register holds when one is set on both sides
pub set_both :
    {X Y : Type 0} (P : X → Y → Type 0) (r q : Register) (v : X) (x : Y) (vs : Registers X) (xs : Registers Y)
    → P v x → ((p : Register) → P (get p vs) (get p xs)) → P (get q (set r v vs)) (get q (set r x xs))
set_both P A A v x vs xs n o = n
set_both P A q v x vs xs n o = o q
set_both P B B v x vs xs n o = n
set_both P B q v x vs xs n o = o q
set_both P C C v x vs xs n o = n
set_both P C q v x vs xs n o = o q
set_both P D D v x vs xs n o = n
set_both P D q v x vs xs n o = o q
set_both P E E v x vs xs n o = n
set_both P E q v x vs xs n o = o q
set_both P H H v x vs xs n o = n
set_both P H q v x vs xs n o = o q
set_both P L L v x vs xs n o = n
set_both P L q v x vs xs n o = o q

no_register : (r : Register) → get r no_place ≡ false
no_register A = refl
no_register B = refl
no_register C = refl
no_register D = refl
no_register E = refl
no_register H = refl
no_register L = refl

-- each of these registers holds a byte
abbrev pub AllHold : Registers Bool → Registers ℕ → ℕ → Type 0
AllHold s x v = (q : Register) → get q s ≡ true → get q x ≡ v

-- a register that isn't one of them may hold anything
pub AllHold-without : (r : Register) (n v : ℕ) (s : Registers Bool) (x : Registers ℕ) → AllHold s x v → AllHold (set r false s) (set r n x) v
AllHold-without r n v s x h q = set_both (λ b y. b ≡ true → y ≡ v) r q false n s x not_so h

-- a register that gets the byte becomes one of them
pub AllHold-set : (r : Register) (n v : ℕ) (s : Registers Bool) (x : Registers ℕ) → n ≡ v → AllHold s x v → AllHold (set r true s) (set r n x) v
AllHold-set r n v s x e h q = set_both (λ b y. b ≡ true → y ≡ v) r q true n s x (λ t. e) h

-- a register that holds the byte may be one of them
pub AllHold-with : (r : Register) (v : ℕ) (s : Registers Bool) (x : Registers ℕ) → get r x ≡ v → AllHold s x v → AllHold (set r true s) x v
AllHold-with r v s x e h = subst (λ y. AllHold (set r true s) y v) (set_same r x) (AllHold-set r (get r x) v s x e h)

pub AllHold-none : (v : ℕ) (x : Registers ℕ) → AllHold no_place x v
AllHold-none v x q h = not_so (sym (no_register q) ∙ h)
