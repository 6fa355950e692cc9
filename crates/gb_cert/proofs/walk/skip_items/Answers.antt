use Rattle.std.proofs.Common.{ℕ, List, subst}
use Rattle.std.specs.Borrow.{Bor}
use Rattle.gb_states.specs.Below.gb_fields.Format.{Gives}
use Rattle.gb_states.specs.declared.form.Form.TheVariants.{Older}
use Rattle.gb_states.specs.Forms.{vals_by}
use Rattle.gb_cert.specs.Skipping.{skipped}
use Rattle.gb_cert.proofs.Skipping.{items_then}
use Rattle.gb_cert.proofs.walk.skip_items.Goals as goal

pub returns : goal.returns
returns c =
    rw (items_then c.args.rules c.args.role c.args.stack_set c.args.bytes.now c.in_ok-count.count c.in_ok-count.rest.now c.in_ok-count.ensures.exact)
    (subst (λ (n : ℕ). Gives {X = Bor (List ℕ)} (λ x. x.now) c.skip_some_items.result (skipped (vals_by (Older c.args.rules) n) c.in_ok-count.rest.now)) c.item_bytes.ensures c.skip_some_items.ensures)
