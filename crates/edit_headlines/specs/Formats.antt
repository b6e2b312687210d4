-- Format lists in memory.
use Rattle.std.specs.Prelude.{ℕ, List, ◌∷◌}
use Rattle.rv_meaning.specs.Memory.{bytes_of_words}
use Rattle.pli_language.specs.Tree as T
use Rattle.pli_typing.specs.TypedTree as Y
use Rattle.pli_coding.specs.Assembly.{DataPlace}
use Rattle.pli_coding.specs.Images.{picture_of}
use Rattle.pli_coding.specs.Linking.{place_of}
use Rattle.pli_coding.specs.StaticForms.{formats_datum, formats_length, formats_words}
use Rattle.storage_relation.specs.Served.{Holds}
use Rattle.activation_relation.specs.Layers.{Point, now}
use Rattle.run_steps.specs.DataNamed.{BytesStand, IsPlaced}
use Rattle.pli_headline.specs.Headline.{FitsMemory, parts}
use Rattle.pli_headline.specs.ProvedSoFar.{AreProvedFormats, HasData}
use Rattle.program_runs.specs.Constants.{HasConstants}
use Rattle.program_runs.specs.Statements.{Block, IsAmong}
use Rattle.block_headlines.specs.Constants.{IsOf}
use Rattle.edit_runs.specs.Edits.{HasFormats}

-- service 34 finds the list where the bytes of its datum stand
abbrev pub FormatsFound : Type 0
FormatsFound =
    (k : Block) (fs : T.Formats) (m : List ℕ) → AreProvedFormats fs → HasData fs →
    BytesStand k.call.code m (place_of k.call.surroundings.links (DataPlace (formats_datum fs)))
    (bytes_of_words (formats_length fs ∷ formats_words fs)) →
    HasFormats k fs m

-- so it finds it at each point of a block that has these bytes, and of a program's block in which the list has a place
pub record FormatsKnown : Type 0 where
  pub known :
      (k : Block) (fs : T.Formats) → AreProvedFormats fs → HasData fs →
      HasConstants k (place_of k.call.surroundings.links (DataPlace (formats_datum fs)))
      (bytes_of_words (formats_length fs ∷ formats_words fs)) →
      (p : Point) (numbers : ℕ → ℕ) (m : List ℕ) → IsAmong k numbers p → Holds (now p m) → HasFormats k fs m
  pub placed :
      (program : Y.Program) (k : Block) (fs : T.Formats) → FitsMemory (picture_of parts program) → IsOf program k →
      AreProvedFormats fs → HasData fs → IsPlaced (formats_datum fs) k.call.surroundings.links.data' →
      (p : Point) (numbers : ℕ → ℕ) (m : List ℕ) → IsAmong k numbers p → Holds (now p m) → HasFormats k fs m
