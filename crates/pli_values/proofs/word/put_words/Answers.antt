use Rattle.std.proofs.Common.{arith}
use Rattle.pli_values.proofs.Parts.{next_word, room_for_words}
use Rattle.pli_values.proofs.word.put_words.Goals as goal

pub loop-word-preserved : goal.loop-word-preserved
loop-word-preserved c =
    let words = c.args.words.now in
    let k = c.loop-word.word-index in
    let known = c.loop-word.invariant in
    let room = room_for_words words k c.loop-word.here _ c.loop-word-test.true known.inside in
    record {
      inside = omega (arith, room, c.put_word.auto.memory);
      written = next_word words c.loop-word.memory c.put_word.new.memory _ k c.loop-word.here c.loop-word-test.true c.put_word.ensures known.inside known.written;
    }
