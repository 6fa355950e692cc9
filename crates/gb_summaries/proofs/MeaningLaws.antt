-- What holds of every machine.
use Rattle.std.proofs.Common.{◌≡◌, ℕ, true, Some, None}
use Rattle.gb_ops.specs.declared.machine.Banks.{Banks}
use Rattle.gb_ops.specs.declared.machine.Kind.{Kind}
use Rattle.gb_ops.specs.declared.op.Register.{Register}
use Rattle.gb_ops.specs.declared.op.Register.TheVariants.{A, B, C, D, E, H, L}
use Rattle.gb_ops.specs.declared.registers.Registers.{Registers}
use Rattle.gb_ops.specs.Registers.{get}
use Rattle.gb_domain.specs.Places.{no_place}
use Rattle.gb_domain.specs.Summaries.{no_shadows}
use Rattle.gb_relations.specs.Below.gb_copies.declared.windows.BankWindow.{BankWindow}
use Rattle.gb_relations.specs.Below.gb_copies.ShadowMeaning.{AreShadows}
use Rattle.gb_relations.proofs.Below.gb_copies_laws.RegisterLaws.{not_so}
use Rattle.gb_summaries.specs.Meaning.{NothingHolds}

no_place_is_one : {X : Type 0} (q : Register) → get q no_place ≡ true → X
no_place_is_one A h = not_so h
no_place_is_one B h = not_so h
no_place_is_one C h = not_so h
no_place_is_one D h = not_so h
no_place_is_one E h = not_so h
no_place_is_one H h = not_so h
no_place_is_one L h = not_so h

none_is_some : {X : Type 0} {a : ℕ} → None ≡ Some a → X
none_is_some h = cc

pub AreShadows-none :
    (k : Kind) (which : BankWindow) (x : Registers ℕ) (memory : ℕ → ℕ) (r : Banks) → AreShadows k which no_shadows x memory r
AreShadows-none k which x memory r =
    record { registers = λ q h. no_place_is_one q h; address = λ a h. none_is_some h }

pub nothing_holds : NothingHolds
nothing_holds program cells p memory banks =
    record {
      facts = tt;
      fills = tt;
      first = AreShadows-none _ _ _ _ _;
      second = AreShadows-none _ _ _ _ _;
      aside = tt;
    }
