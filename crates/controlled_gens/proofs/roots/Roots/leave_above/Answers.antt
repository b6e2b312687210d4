use Rattle.std.proofs.Common.{◌≡◌, ℕ, List, sym, ap, ◌∙◌, subst}
use Rattle.std.specs.Prelude.{nat_le, filter}
use Rattle.controlled_gens.specs.declared.roots.Root.{Root}
use Rattle.controlled_gens.specs.Rooted.{Rooted, Rise, up_to_owner}
use Rattle.controlled_gens.proofs.Rising.{rise_filter}
use Rattle.controlled_gens.proofs.roots.Roots.leave_above.Goals as goal

pub invariant_of-self : goal.invariant_of-self
invariant_of-self c =
    let es = c.self.inside.roots.entries in
    subst (λ (x : List (ℕ × Root)). Rise 0 x c.self.inside.given) (sym c.end_above.ensures) (rise_filter (λ e. nat_le e.1.owner c.args.owner) 0 es c.self.inside.given c.self.invariant)

pub returns : goal.returns
returns c =
    ap (λ (x : List (ℕ × Root)). let r : Rooted = record { serials = c.self.inside.given; roots = x } in r) c.end_above.ensures
    ∙ ap (λ (o : Rooted). up_to_owner c.args.owner o) c.self.view_is
