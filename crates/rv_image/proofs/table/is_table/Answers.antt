use Rattle.std.proofs.Common.{◌≡◌, ◌∷◌, [], drop, refl}
use Rattle.rv_meaning.specs.Memory.{load}
use Rattle.rv_image.specs.Reading.{words_of}
use Rattle.rv_image.proofs.Words.{words_of-short, words_of-first}
use Rattle.rv_image.proofs.Tables.{no_words, table_goes, table_back, table_stuck, table_shorter}
use Rattle.rv_image.proofs.table.is_table.Goals as goal

pub loop-rest-smaller : goal.loop-rest-smaller
loop-rest-smaller c = table_shorter (words_of c.loop-rest.rest.now) (words_of c.in-Some.after.now) c.in-Some.ensures

pub loop-rest-preserved : goal.loop-rest-preserved
loop-rest-preserved c = (
  λ t. table_back (words_of c.loop-rest.rest.now) (words_of c.in-Some.after.now) c.in-Some.ensures (c.loop-rest.invariant.0 t),
  λ t. c.loop-rest.invariant.1 (table_goes (words_of c.loop-rest.rest.now) (words_of c.in-Some.after.now) c.in-Some.ensures t),
)

pub returns-in-None : goal.returns-in-None
returns-in-None c = (
  λ t. absurd (cc),
  λ t.
      let rest = c.loop-rest.rest.now in
      let none : words_of rest ≡ [] = table_stuck (words_of rest) c.in-None.ensures (c.loop-rest.invariant.0 t) in
      let some : words_of rest ≡ load 4 rest 0 ∷ words_of (drop 4 rest) = words_of-first rest c.loop-rest-test.true in
      absurd (cc),
)

pub returns : goal.returns
returns c = (
  λ t. c.loop-rest.invariant.1 (no_words (words_of c.loop-rest.rest.now) (words_of-short c.loop-rest.rest.now c.loop-rest-test.false)),
  λ t. refl,
)
