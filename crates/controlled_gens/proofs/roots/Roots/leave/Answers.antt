use Rattle.std.proofs.Common.{◌≡◌, ℕ, List, sym, ap, ◌∙◌, subst}
use Rattle.std.specs.Prelude.{not, filter, ◌==◌}
use Rattle.controlled_gens.specs.declared.roots.Root.{Root}
use Rattle.controlled_gens.specs.Rooted.{Rooted, Rise, without_serial}
use Rattle.controlled_gens.proofs.Rising.{rise_filter, removed_filtered}
use Rattle.controlled_gens.proofs.roots.Roots.leave.Goals as goal

pub invariant_of-self : goal.invariant_of-self
invariant_of-self c =
    let es = c.self.inside.roots.entries in
    let n : c.shift_remove.new.self.entries ≡ filter (λ e. not (c.args.serial == e.0)) es =
    c.shift_remove.ensures.entries ∙ removed_filtered c.args.serial 0 es c.self.inside.given c.self.invariant in
    subst (λ (x : List (ℕ × Root)). Rise 0 x c.self.inside.given) (sym n) (rise_filter (λ e. not (c.args.serial == e.0)) 0 es c.self.inside.given c.self.invariant)

pub returns : goal.returns
returns c =
    let es = c.self.inside.roots.entries in
    let n : c.shift_remove.new.self.entries ≡ filter (λ e. not (c.args.serial == e.0)) es =
    c.shift_remove.ensures.entries ∙ removed_filtered c.args.serial 0 es c.self.inside.given c.self.invariant in
    ap (λ (x : List (ℕ × Root)). let r : Rooted = record { serials = c.self.inside.given; roots = x } in r) n
    ∙ ap (λ (o : Rooted). without_serial c.args.serial o) c.self.view_is
