-- Each safe event leaves the machine standing: it stays in the procedure on top, calls another one, returns, or begins anew.
use Rattle.gb_rules.proofs.EntryLaws.{main_entered}
use Rattle.gb_rules.proofs.EntryLaws.{WasEntered}
use Rattle.gb_successors.specs.Below.gb_pairs.Sound.{AreWithin}
use Rattle.gb_successors.specs.Below.gb_product.Meaning.{entered_with}
use Rattle.gb_rules.specs.Procedures.{entered_of}
use Rattle.std.proofs.Common.{◌≡◌, subst, ℕ, ◌+◌, ◌<◌, inl, inr, List, [], ◌∷◌, refl, arith}
use Rattle.gb_ops.specs.declared.machine.Event.{Event}
use Rattle.gb_ops.specs.Play.{MState, next}
use Rattle.gb_successors.specs.Below.gb_abs.Meaning.{Activation}
use Rattle.gb_successors.specs.Below.gb_domain.declared.rules.Rules.{Rules}
use Rattle.gb_successors.specs.Below.gb_domain.declared.rules.Rules.TheVariants.{Simple, Extended}
use Rattle.gb_successors.specs.Below.gb_domain.Certificate.{Certificate}
use Rattle.gb_successors.specs.Below.gb_domain.Limits.{rules_of}
use Rattle.gb_calls.specs.Below.gb_states.WholeRules.{IsCertificate}
use Rattle.gb_calls.specs.TakenOver.{base_below}
use Rattle.gb_rules.specs.Procedures.{taken_by}
use Rattle.gb_rules.specs.Safety.{begun, begun_anew, IsMeant, CallsBy, ReturnsBy, RestartsBy, LeadsBy, IsSafeEvent}
use Rattle.gb_rules.specs.Frames.{Keeps, Frame, Stands, IsStanding}
use Rattle.gb_rules.proofs.FrameLaws.{waiting_by, Keeps-none, Stands-stays, Stands-called, Stands-returned}
use Rattle.gb_rules.proofs.HandingLaws.{Stands-handed, Stands-given_back}

-- ---- each way on

IsStanding-stays : (rom : List ℕ) (cert : Certificate) (frames : List Frame) (procedure : ℕ) (entry : Activation) (base : ℕ) (s t : MState) → Stands rom cert frames procedure entry base s
    → IsMeant rom cert procedure entry base t → Keeps cert procedure base s t → IsStanding rom cert t
IsStanding-stays rom cert frames procedure entry base s t stands meant keeps = record {
  frames = frames;
  procedure = procedure;
  entry = entry;
  base = base;
  stands = Stands-stays rom cert frames procedure entry base s t stands meant keeps;
}

IsStanding-called : (rules : Rules) (rom : List ℕ) (cert : Certificate) (frames : List Frame) (procedure : ℕ) (entry : Activation) (base : ℕ) (s t : MState) → IsCertificate cert → rules_of cert.version ≡ rules
    → Stands rom cert frames procedure entry base s → CallsBy rules cert procedure entry base t → Keeps cert procedure base s t → IsStanding rom cert t
IsStanding-called Simple rom cert frames procedure entry base s t certificate is stands c keeps = record {
  frames = record { procedure = procedure; entry = entry; base = base } ∷ frames;
  procedure = c.node.procedure;
  entry = begun rom cert c.node.procedure t.processor.sp t;
  base = t.processor.sp;
  stands = Stands-called rom cert frames procedure entry base s t certificate is stands c keeps;
}
IsStanding-called Extended rom cert frames procedure entry base s t certificate is stands h keeps = record {
  frames = record { procedure = procedure; entry = entry; base = base } ∷ frames;
  procedure = h.node.procedure;
  entry = begun rom cert h.node.procedure (base_below (taken_by cert h.node.procedure) h.state.items base) t;
  base = base_below (taken_by cert h.node.procedure) h.state.items base;
  stands = Stands-handed rom cert frames procedure entry base s t certificate is stands h keeps;
}

-- nobody waits below main, which doesn't return
main_stays : {X : Type 0} (procedure : ℕ) → procedure ≡ 0 → 0 < procedure → X
main_stays procedure main some = absurd (omega arith)

IsStanding-returned : (rules : Rules) (rom : List ℕ) (cert : Certificate) (frames : List Frame) (procedure : ℕ) (entry : Activation) (base : ℕ) (s t : MState) → IsCertificate cert → rules_of cert.version ≡ rules
    → Stands rom cert frames procedure entry base s → ReturnsBy rules cert procedure entry base s t → Keeps cert procedure base s t → IsStanding rom cert t
IsStanding-returned Simple rom cert [] procedure entry base s t certificate is stands r keeps = main_stays procedure stands.waiting r.not_main
IsStanding-returned Extended rom cert [] procedure entry base s t certificate is stands r keeps = main_stays procedure stands.waiting r.not_main
IsStanding-returned Simple rom cert (f ∷ rest) procedure entry base s t certificate is stands r keeps = record {
  frames = rest;
  procedure = f.procedure;
  entry = f.entry;
  base = f.base;
  stands = Stands-returned rom cert f rest procedure entry base s t certificate is stands r keeps;
}
IsStanding-returned Extended rom cert (f ∷ rest) procedure entry base s t certificate is stands r keeps = record {
  frames = rest;
  procedure = f.procedure;
  entry = f.entry;
  base = f.base;
  stands = Stands-given_back rom cert f rest procedure entry base s t certificate is stands r keeps;
}

-- where main has just begun, nobody waits
pub IsStanding-start : (rom : List ℕ) (cert : Certificate) (base : ℕ) (s : MState) → IsMeant rom cert 0 (begun rom cert 0 base s) base s → IsStanding rom cert s
IsStanding-start rom cert base s meant = record {
  frames = [];
  procedure = 0;
  entry = begun rom cert 0 base s;
  base = base;
  stands = record { meant = meant; waiting = refl; keeps = Keeps-none cert 0 base s };
}

-- where main begins anew, nobody waits either; it was entered with the registers with which it was
IsStanding-restarted : (rules : Rules) (rom : List ℕ) (cert : Certificate) (t : MState) → WasEntered cert → RestartsBy rules rom cert t → IsStanding rom cert t
IsStanding-restarted Simple rom cert t first none = absurd none
IsStanding-restarted Extended rom cert t first meant = record {
  frames = [];
  procedure = 0;
  entry = begun_anew rom cert first.was t;
  base = cert.region.last + 1;
  stands = record { meant = meant first.was first.within; waiting = refl; keeps = record { byte = λ b kept. refl } };
}

-- ---- each event

-- whoever waits, main was entered
first_entered : (rules : Rules) (rom : List ℕ) (cert : Certificate) (frames : List Frame) (procedure : ℕ) (entry : Activation) (base : ℕ) (s : MState) → rules_of cert.version ≡ rules
    → Stands rom cert frames procedure entry base s → WasEntered cert
first_entered rules rom cert frames procedure entry base s is stands =
    main_entered rules cert frames procedure entry base
    (subst (λ n. AreWithin (entered_of cert n) (entered_with entry)) stands.meant.procedure_is stands.meant.at.within)
    (waiting_by cert rules frames procedure entry base is stands.waiting)

IsStanding-leads : (rules : Rules) (rom : List ℕ) (cert : Certificate) (frames : List Frame) (procedure : ℕ) (entry : Activation) (base : ℕ) (s t : MState) → IsCertificate cert → rules_of cert.version ≡ rules
    → Stands rom cert frames procedure entry base s → LeadsBy rules rom cert procedure entry base s t → Keeps cert procedure base s t → IsStanding rom cert t
IsStanding-leads rules rom cert frames procedure entry base s t certificate is stands (inl meant) keeps = IsStanding-stays rom cert frames procedure entry base s t stands meant keeps
IsStanding-leads rules rom cert frames procedure entry base s t certificate is stands (inr (inl c)) keeps = IsStanding-called rules rom cert frames procedure entry base s t certificate is stands c keeps
IsStanding-leads rules rom cert frames procedure entry base s t certificate is stands (inr (inr (inl r))) keeps = IsStanding-returned rules rom cert frames procedure entry base s t certificate is stands r keeps
IsStanding-leads rules rom cert frames procedure entry base s t certificate is stands (inr (inr (inr anew))) keeps =
    IsStanding-restarted rules rom cert t (first_entered rules rom cert frames procedure entry base s is stands) anew

-- after each safe event the machine stands
pub IsStanding-event : (rom : List ℕ) (cert : Certificate) (frames : List Frame) (procedure : ℕ) (entry : Activation) (base : ℕ) (s : MState) (e : Event) → IsCertificate cert
    → Stands rom cert frames procedure entry base s → IsSafeEvent rom cert procedure entry base s e → IsStanding rom cert (next rom s e)
IsStanding-event rom cert frames procedure entry base s e certificate stands safe =
    IsStanding-leads (rules_of cert.version) rom cert frames procedure entry base s (next rom s e) certificate refl stands safe.leads (record { byte = safe.kept })
