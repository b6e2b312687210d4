use Rattle.std.proofs.Common.{◌≡◌, ℕ, ◌+◌, ◌<◌, ◌++◌, List, [], ◌∷◌, sym, ap, ◌∙◌, subst, arith}
use Rattle.controlled_gens.specs.declared.roots.Root.{Root}
use Rattle.controlled_gens.specs.Rooted.{Rooted, Rise, root_with}
use Rattle.controlled_gens.proofs.Rising.{rise_push, rise_insert}
use Rattle.controlled_gens.proofs.roots.Roots.enter_owned.Goals as goal

pub invariant_of-self : goal.invariant_of-self
invariant_of-self c =
    let es = c.self.inside.roots.entries in
    let root = root_with c.args.place c.args.signature c.args.owner in
    let h : c.self.inside.given < c.in-Some.serial = omega (arith, c.in-Some.ensures) in
    let n : c.insert.new.self.entries ≡ es ++ (c.in-Some.serial, root) ∷ [] = c.in-Ok.ensures.entries ∙ rise_insert 0 es c.self.inside.given c.in-Some.serial root c.self.invariant h in
    subst (λ (x : List (ℕ × Root)). Rise 0 x c.in-Some.serial) (sym n) (rise_push 0 es c.self.inside.given c.in-Some.serial root c.self.invariant h)

pub returns-in-Ok : goal.returns-in-Ok
returns-in-Ok c =
    let es = c.self.inside.roots.entries in
    let root = root_with c.args.place c.args.signature c.args.owner in
    let s = c.in-Some.serial in
    let h : c.self.inside.given < s = omega (arith, c.in-Some.ensures) in
    let n : c.insert.new.self.entries ≡ es ++ (s, root) ∷ [] = c.in-Ok.ensures.entries ∙ rise_insert 0 es c.self.inside.given s root c.self.invariant h in (
      omega (arith, c.in-Some.ensures),
      c.in-Some.ensures.1 ∙ ap (λ (r : Rooted). r.serials + 1) c.self.view_is,
      ap (λ (x : List (ℕ × Root)). let r : Rooted = record { serials = s; roots = x } in r) n
          ∙ ap (λ (o : Rooted). let r : Rooted = record { serials = s; roots = o.roots ++ (s, root) ∷ [] } in r) c.self.view_is,
    )
