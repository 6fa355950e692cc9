-- Shadows as a routine returns.
use Rattle.std.proofs.Common.{◌≡◌, ℕ, Bool, true, false, ◌&&◌, ◌||◌, cond, Option, Some, None, refl, sym, ◌∙◌, ap, subst}
use Rattle.std.proofs.lemmas.Bool.{and_parts}
use Rattle.gb_ops.specs.declared.machine.Banks.{Banks}
use Rattle.gb_ops.specs.declared.machine.Kind.{Kind}
use Rattle.gb_ops.specs.declared.op.Register.{Register}
use Rattle.gb_ops.specs.declared.op.Register.TheVariants.{A, B, C, D, E, H, L}
use Rattle.gb_ops.specs.declared.registers.Registers.{Registers}
use Rattle.gb_ops.specs.Registers.{get}
use Rattle.gb_domain.specs.Places.{no_place}
use Rattle.gb_copies.proofs.RegisterLaws.{not_so}
use Rattle.gb_copies.specs.declared.windows.BankWindow.{BankWindow}
use Rattle.gb_domain.specs.declared.summary.Shadows.{Shadows}
use Rattle.gb_copies.specs.declared.bank_returned.Preserved.{Preserved}
use Rattle.gb_copies.specs.Windows.{register_of, left_by}
use Rattle.gb_copies.specs.ShadowMeaning.{IsShadow, AreShadows}
use Rattle.gb_copies.specs.Shadows.{either_registers, both_registers}
use Rattle.gb_copies.specs.BankReturned.{registers_if, address_returned, returned, AreKept, IsSoundReturn}

-- a shadow stays one where its byte and the register are as they were
IsShadow-kept :
    (k : Kind) (which : BankWindow) (n m : ℕ) (r s : Banks)
    → m ≡ n → register_of k which s ≡ register_of k which r → IsShadow k which n r → IsShadow k which m s
IsShadow-kept k which n m r s e f h = λ has. ap (left_by k which) e ∙ h has ∙ sym f

either-get : (q : Register) (s t : Registers Bool) → get q (either_registers s t) ≡ (get q s || get q t)
either-get A s t = refl
either-get B s t = refl
either-get C s t = refl
either-get D s t = refl
either-get E s t = refl
either-get H s t = refl
either-get L s t = refl

both-get : (q : Register) (s t : Registers Bool) → get q (both_registers s t) ≡ (get q s && get q t)
both-get A s t = refl
both-get B s t = refl
both-get C s t = refl
both-get D s t = refl
both-get E s t = refl
both-get H s t = refl
both-get L s t = refl

none-get : (q : Register) → get q no_place ≡ false
none-get A = refl
none-get B = refl
none-get C = refl
none-get D = refl
none-get E = refl
none-get H = refl
none-get L = refl

-- a register of the caller that stays a shadow
record StaysShadow (kept : Preserved) (caller : Shadows) (q : Register) : Type 0 where
  window : kept.window ≡ true
  register : get q kept.registers ≡ true
  shadow : get q caller.registers ≡ true

stays-shadow :
    (kept : Preserved) (caller : Shadows) (q : Register)
    → get q (registers_if kept.window (both_registers kept.registers caller.registers)) ≡ true → StaysShadow kept caller q
stays-shadow kept caller q h = choose kept.window refl h
  where
    choose :
        (b : Bool) → kept.window ≡ b → get q (cond b (both_registers kept.registers caller.registers) no_place) ≡ true → StaysShadow kept caller q
    choose true e i =
        let parts = and_parts (get q kept.registers) (get q caller.registers) (sym (both-get q kept.registers caller.registers) ∙ i) in
        record { window = e; register = parts.0; shadow = parts.1 }
    choose false e i = not_so (sym (none-get q) ∙ i)

AreShadows-returned :
    (kept : Preserved) (exit caller : Shadows) (k : Kind) (which : BankWindow) (x y : Registers ℕ) (memory after : ℕ → ℕ) (r s : Banks)
    → AreKept k which kept caller x y memory after r s
    → AreShadows k which caller x memory r → AreShadows k which exit y after s → AreShadows k which (returned kept exit caller) y after s
unfolding returned
AreShadows-returned kept exit caller k which x y memory after r s keeps c e = record { registers = registers; address = address exit.address refl }
  where
    registers :
        (q : Register)
        → get q (either_registers exit.registers (registers_if kept.window (both_registers kept.registers caller.registers))) ≡ true
        → IsShadow k which (get q y) s
    registers q h =
        choose (get q exit.registers) refl
        (sym (either-get q exit.registers (registers_if kept.window (both_registers kept.registers caller.registers))) ∙ h)
      where
        choose :
            (b : Bool) → get q exit.registers ≡ b
            → (get q exit.registers || get q (registers_if kept.window (both_registers kept.registers caller.registers))) ≡ true
            → IsShadow k which (get q y) s
        choose true is i = e.registers q is
        choose false is i =
            let st =
            stays-shadow kept caller q
            (ap (λ b. b || get q (registers_if kept.window (both_registers kept.registers caller.registers))) (sym is) ∙ i) in
            IsShadow-kept k which (get q x) (get q y) r s (keeps.registers q st.register) (keeps.window st.window) (c.registers q st.shadow)

    address :
        (o : Option ℕ) → exit.address ≡ o → (a : ℕ) → address_returned (kept.window && kept.address) o caller.address ≡ Some a
        → IsShadow k which (after a) s
    address (Some b) is a h = e.address a (is ∙ h)
    address None is a h = choose (kept.window && kept.address) refl h
      where
        choose : (t : Bool) → (kept.window && kept.address) ≡ t → cond t caller.address None ≡ Some a → IsShadow k which (after a) s
        choose true f i =
            let parts = and_parts kept.window kept.address f in
            IsShadow-kept k which (memory a) (after a) r s (keeps.address parts.1 a i) (keeps.window parts.0) (c.address a i)
        choose false f i = cc

pub returned_sound : (kept : Preserved) (exit caller o : Shadows) → o ≡ returned kept exit caller → IsSoundReturn kept exit caller o
returned_sound kept exit caller o e =
    record {
      gives = λ k which x y memory after r s keeps c h.
          subst (λ w. AreShadows k which w y after s) (sym e) (AreShadows-returned kept exit caller k which x y memory after r s keeps c h);
    }
