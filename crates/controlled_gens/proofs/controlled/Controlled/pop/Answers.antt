use Rattle.std.proofs.Common.{◌<◌, length, Vec, Global, arith}
use Rattle.controlled_gens.specs.declared.controlled.Generation.{Generation}
use Rattle.controlled_gens.specs.Stacks.{freed_newest, newest, generations_of}
use Rattle.controlled_gens.proofs.Stacking.{stack_old, stack_new, stack_others, stack_count, popped_at}
use Rattle.controlled_gens.proofs.controlled.Controlled.pop.Goals as goal

pub returns-clause-popped : goal.returns-clause-popped
returns-clause-popped g c =
    let f = λ (v : Vec Generation Global). v.items in
    let m = c.self.inside in
    let there : c.args.variable < length m.stacks.items = omega arith in
    popped_at (λ gs. freed_newest g.K.AreaKeeper.keeper c.args.heap.now (newest gs))
    c.index_mut.result.now.items c.pop_from.new.generations.items (generations_of c.args.self.now c.args.variable) _
    c.args.heap.now c.pop_from.new.heap c.pop_from.result
    (stack_old f m.stacks.items m.variables c.args.variable c.args.self.now c.index_mut.result.now c.index_mut.ensures.value c.self.view_is there)
    (stack_new f m.stacks.items m.variables c.args.variable c.args.self.now c.pop_from.new.generations there)
    c.pop_from.ensures

pub returns-clause-others : goal.returns-clause-others
returns-clause-others g c =
    let f = λ (v : Vec Generation Global). v.items in
    let m = c.self.inside in
    let there : c.args.variable < length m.stacks.items = omega arith in
    stack_others f m.stacks.items m.variables c.args.variable c.args.self.now c.pop_from.new.generations c.self.view_is there

pub returns-clause-as_many : goal.returns-clause-as_many
returns-clause-as_many g c =
    let f = λ (v : Vec Generation Global). v.items in
    let m = c.self.inside in
    let there : c.args.variable < length m.stacks.items = omega arith in
    stack_count f m.stacks.items m.variables c.args.variable c.args.self.now c.pop_from.new.generations c.self.view_is there
