use Rattle.rv_assembly.specs.Found.{shown}
use Rattle.rv_assembly.proofs.Decodable.{linked_whole, words_decode}
use Rattle.rv_assembly.proofs.words.words_of.Goals as goal

pub returns-clause-instructions : goal.returns-clause-instructions
returns-clause-instructions c =
    let links = shown c.args.links.now.marks.items c.args.links.now.placed.items in
    words_decode links c.args.code.now c.items-items.ensures.fit c.loop-item.words.items
    (linked_whole links c.items-items.result.now c.args.code.now c.loop-item.item-index c.loop-item.at c.loop-item.words.items c.loop-item-test.false c.items-items.ensures.items c.loop-item.invariant.put)
