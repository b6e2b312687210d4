-- Static data of programs at the points of their blocks: what is told stands in the first memory, and each datum that
-- nothing writes is told at its place.
use Rattle.std.specs.Prelude.{ℕ, ◌≡◌, List, false, true}
use Rattle.pli_typing.specs.TypedTree as Y
use Rattle.pli_meaning.specs.Pictures.{first_bytes}
use Rattle.pli_coding.specs.Assembly.{ConstantBytes, Datum, NumberWord, StaticStorage}
use Rattle.pli_coding.specs.Images.{linked_code, picture_of}
use Rattle.run_steps.specs.DataNamed.{IsPlaced}
use Rattle.program_runs.specs.Constants.{HasConstants}
use Rattle.program_runs.specs.Starts.{start_point, surroundings_of}
use Rattle.program_runs.specs.Statements.{Block, IsAmong, IsBegun}
use Rattle.program_places.specs.Constants.{bytes_for, constants_in, datum_at, is_unwritten}
use Rattle.program_places.specs.Programs.{HasStaticData, Run, code_for, image_for, links_for}
use Rattle.pli_headline.specs.Headline.{FitsMemory, parts}

-- a block in a run of a program's image, at whose first statement its static data are told
pub record IsOf (program : Y.Program) (k : Block) : Type 0 where
  pub code : k.call.code ≡ linked_code (code_for program)
  pub links : k.call.surroundings.links ≡ links_for program
  pub constants : k.first.places.constants ≡ constants_in (code_for program)

pub record ConstantsTold : Type 0 where
  -- what is told stands in the first memory of the image, behind the code and before the stacks
  pub stand :
      (program : Y.Program) → FitsMemory (picture_of parts program) →
      HasStaticData program (first_bytes (picture_of parts program))
  -- words for signatures' numbers and STATIC storage are none of these
  pub written :
      (block index bytes : ℕ) →
      (is_unwritten (NumberWord block index) ≡ false) × (is_unwritten (StaticStorage block index bytes) ≡ false)
  -- a datum that nothing writes and that has a place
  pub datum :
      (program : Y.Program) (k : Block) (d : Datum) → FitsMemory (picture_of parts program) → IsOf program k →
      is_unwritten d ≡ true → IsPlaced d (links_for program).data' →
      HasConstants k (datum_at (code_for program) d) (bytes_for (code_for program) d)
  -- constants alone, without what fills their last word
  pub bytes :
      (program : Y.Program) (k : Block) (bytes : List ℕ) → FitsMemory (picture_of parts program) → IsOf program k →
      IsPlaced (ConstantBytes bytes) (links_for program).data' →
      HasConstants k (datum_at (code_for program) (ConstantBytes bytes)) bytes
  -- the main procedure's block is such a block, and so is one that is called at a point of one
  pub main :
      (program : Y.Program) (r : Run) (k : Block) → k.call.code ≡ linked_code (code_for program) →
      k.call.surroundings ≡ surroundings_of (image_for program r) → k.call.point ≡ start_point (image_for program r) →
      IsBegun k → IsOf program k
  pub called :
      (program : Y.Program) (k inner : Block) (numbers : ℕ → ℕ) → IsOf program k →
      IsAmong k numbers inner.call.point → inner.call.code ≡ k.call.code →
      inner.call.surroundings ≡ k.call.surroundings → IsBegun inner → IsOf program inner
