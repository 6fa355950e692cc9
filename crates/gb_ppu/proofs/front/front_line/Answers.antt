use Rattle.std.proofs.Common.{ℕ, ◌+◌, ◌*◌, sym, ap, ◌∙◌, arith}
use Rattle.std.proofs.lemmas.List.{get_or-replicate}
use Rattle.gb_ppu.specs.Seen.{seen}
use Rattle.gb_ppu.specs.Objects.{meets_line}
use Rattle.gb_ppu.specs.declared.front.FrontLine.{FrontLine}
use Rattle.gb_ppu.proofs.LineObjects.{chosen_before, chosen_before-apart, chosen_before-full}
use Rattle.gb_ppu.proofs.MeetingLanes.{chosen_before-four}
use Rattle.gb_ppu.proofs.FrontWalk.{IsWalkedLine-none, IsWalkedLine-met, IsWalkedLine-same, walked-all, walked-off}
use Rattle.gb_ppu.proofs.front.front_line.Goals as goal
use Rattle.gb_ppu.proofs.front.front_line.Goals.{then-any_meets+else-loop-i-test, else-any_meets, then-met-lt-LINE_OBJECTS+then-meets_line, else-met-lt-LINE_OBJECTS, else-met-lt-LINE_OBJECTS-via-then-met-lt-LINE_OBJECTS+else-meets_line, else-met-lt-LINE_OBJECTS-via-else-met-lt-LINE_OBJECTS}

pub returns-then-not-has_objects : goal.returns-then-not-has_objects
returns-then-not-has_objects c =
    walked-off (seen c.args.scene.now) c.args.y _ _ (sym c.has_objects.ensures ∙ c.if-not-has_objects.true)
    (λ x within. rw c.new-front.ensures.xs (get_or-replicate {A = ℕ} 176 (x + 8) 255 0 (omega arith)))
    (λ x within. rw c.new-front.ensures.pixels (get_or-replicate {A = ℕ} 176 (x + 8) 0 0 (omega arith)))

pub loop-group-init : goal.loop-group-init
loop-group-init c =
    IsWalkedLine-none (seen c.args.scene.now) c.args.y _ _
    (λ x within. rw c.new-front.ensures.xs (get_or-replicate {A = ℕ} 176 (x + 8) 255 0 (omega arith)))
    (λ x within. rw c.new-front.ensures.pixels (get_or-replicate {A = ℕ} 176 (x + 8) 0 0 (omega arith)))

pub loop-i-preserved : goal.loop-i-preserved
loop-i-preserved c =
    elim c.if-met-lt-LINE_OBJECTS.branch [
      | then-met-lt-LINE_OBJECTS+then-meets_line w ↦
          IsWalkedLine-met _ _ _ _ _ _ _ _ _ _ c.loop-i.invariant c.at-object.ensures (sym w.meets_line.ensures ∙ w.if-meets_line.true) w.if-met-lt-LINE_OBJECTS.true w.met-is
          (rw (ap (λ (f : FrontLine). f.xs) w.front-is, ap (λ (f : FrontLine). f.pixels) w.front-is) w.draw.ensures)
      | else-met-lt-LINE_OBJECTS w ↦
          IsWalkedLine-same _ _ _ _ _ _ _ _ _ _ c.loop-i.invariant
          (elim w.else-met-lt-LINE_OBJECTS.branch [
            | else-met-lt-LINE_OBJECTS-via-then-met-lt-LINE_OBJECTS+else-meets_line w' ↦ chosen_before-apart _ _ _ _ (ap (meets_line c.args.scene.now.lcdc c.args.y) (sym c.at-object.ensures) ∙ sym w'.meets_line.ensures ∙ w'.if-meets_line.false)
            | else-met-lt-LINE_OBJECTS-via-else-met-lt-LINE_OBJECTS w' ↦ chosen_before-full _ _ _ _ (omega (arith, c.loop-i.invariant.chosen, w'.if-met-lt-LINE_OBJECTS.false))
          ])
          w.met-is (ap (λ (f : FrontLine). f.xs) w.front-is) (ap (λ (f : FrontLine). f.pixels) w.front-is)
    ]

pub loop-group-preserved : goal.loop-group-preserved
loop-group-preserved c =
    elim c.if-any_meets.branch [
      | then-any_meets+else-loop-i-test w ↦
          IsWalkedLine-same _ _ _ _ _ _ _ _ _ _ w.loop-i.invariant (ap (chosen_before c.args.scene.now.lcdc c.args.scene.now.oam.now c.args.y) (omega (arith, w.loop-i-test.false, w.loop-i.auto.i-end)))
          w.met-is (ap (λ (f : FrontLine). f.xs) w.front-is) (ap (λ (f : FrontLine). f.pixels) w.front-is)
      | else-any_meets w ↦
          IsWalkedLine-same _ _ _ _ _ _ _ _ _ _ c.loop-group.invariant (chosen_before-four _ _ _ _ (c.any_meets.ensures w.if-any_meets.false)) w.met-is
          (ap (λ (f : FrontLine). f.xs) w.front-is) (ap (λ (f : FrontLine). f.pixels) w.front-is)
    ]

pub returns : goal.returns
returns c =
    walked-all (seen c.args.scene.now) c.args.y c.loop-group.met _ _ (4 * c.loop-group.group) (omega (arith, c.loop-group-test.false, c.loop-group.auto.group-end)) (sym c.has_objects.ensures ∙ c.if-not-has_objects.false) c.loop-group.invariant
