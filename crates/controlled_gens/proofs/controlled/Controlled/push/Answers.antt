use Rattle.std.proofs.Common.{◌≡◌, ℕ, ◌+◌, ◌<◌, ◌≤◌, ◌∙◌, List, ap, sym, length, map, max, Vec, Global, pos, arith}
use Rattle.std.proofs.lemmas.List.{length-map}
use Rattle.controlled_gens.specs.declared.controlled.Generation.{Generation}
use Rattle.controlled_gens.specs.Stacks.{filled_up, generations_of, with_generations, IsFilled}
use Rattle.controlled_gens.proofs.Stacking.{as_it_was, filled_longer, length_filled, stack_old, stack_new, stack_others, pushed_at}
use Rattle.controlled_gens.proofs.controlled.Controlled.push.Goals as goal

-- the variables stay what they were where some more have a stack
stays :
    (n variable : ℕ) (old new : List (Vec Generation Global)) (all : List (List Generation)) →
    filled_up n (map (λ (v : Vec Generation Global). v.items) old) ≡ all → length old ≤ n → variable < length all →
    IsFilled (map (λ (v : Vec Generation Global). v.items) old) (map (λ (v : Vec Generation Global). v.items) new) → length new ≤ max (variable + 1) (length old) →
    filled_up n (map (λ (v : Vec Generation Global). v.items) new) ≡ all
stays n variable old new all e within known grown most =
    let f = λ (v : Vec Generation Global). v.items in
    let before = length-map old f in
    let after = length-map new f in
    let count = length_filled n (map f old) (omega (arith, before, within)) in
    let same = ap length e in
    filled_longer n (map f old) (map f new) grown (omega (arith, after, before, count, same, within, known, most)) ∙ e

pub returns-in_default-clause-others : goal.returns-in_default-clause-others
returns-in_default-clause-others g c =
    let i = c.args.variable in
    let all = c.args.self.now in
    let same =
    stays c.self.inside.variables i c.self.inside.stacks.items c.reach.new.stacks.items all c.self.view_is c.self.invariant c.requires.known
    c.reach.ensures.grown c.reach.ensures.most
    in
    same ∙ (as_it_was i all ∙ ap (λ s. with_generations i (generations_of s i) all) (sym same))

pub returns-clause-pushed : goal.returns-clause-pushed
returns-clause-pushed g c =
    let f = λ (v : Vec Generation Global). v.items in
    let m = c.self.inside in
    let i = c.args.variable in
    let items = c.reach.new.stacks.items in
    let same = stays m.variables i m.stacks.items items c.args.self.now c.self.view_is c.self.invariant c.requires.known c.reach.ensures.grown c.reach.ensures.most in
    let there : i < length items = c.in-Ok.ensures.reached in
    pushed_at (g.K.AreaKeeper.keeper.allocated c.args.size c.args.signature (pos 0) c.args.heap.now) c.args.signature
    c.index_mut.result.now.items c.push_onto.new.generations.items (generations_of c.args.self.now i) _
    c.args.heap.now c.push_onto.new.heap c.push_onto.result
    (stack_old f items m.variables i c.args.self.now c.index_mut.result.now c.index_mut.ensures.value same there)
    (stack_new f items m.variables i c.args.self.now c.push_onto.new.generations there)
    c.push_onto.ensures

pub returns-clause-others : goal.returns-clause-others
returns-clause-others g c =
    let f = λ (v : Vec Generation Global). v.items in
    let m = c.self.inside in
    let i = c.args.variable in
    let items = c.reach.new.stacks.items in
    let same = stays m.variables i m.stacks.items items c.args.self.now c.self.view_is c.self.invariant c.requires.known c.reach.ensures.grown c.reach.ensures.most in
    stack_others f items m.variables i c.args.self.now c.push_onto.new.generations same c.in-Ok.ensures.reached
