use Rattle.std.proofs.Common.{refl}
use Rattle.controlled_gens.specs.Stacks.{generations_of}
use Rattle.pli_storage.specs.Held.{with_held}
use Rattle.pli_storage.proofs.Newest.{counted_so}
use Rattle.pli_storage.proofs.Replying.{replies_by}
use Rattle.pli_storage.proofs.held.Held.count.Goals as goal

pub returns : goal.returns
returns c = λ k m c'. replies_by _ _ _ _ _ _ _ (counted_so (with_held k c.args.self.now m c') c.args.variable c.args.second c.count.result (generations_of c.args.self.now.controlled c.args.variable) c.if-variable-ge-VARIABLES.false refl c.count.ensures) (c.counted.ensures (with_held k c.args.self.now m c'))
