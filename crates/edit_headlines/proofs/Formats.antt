-- A format list whose bytes stand is found.
use Rattle.std.proofs.Common.{ℕ, List, ◌∷◌, subst, sym}
use Rattle.rv_meaning.specs.Memory.{bytes_of_words}
use Rattle.pli_language.specs.Tree as T
use Rattle.pli_typing.specs.TypedTree as Y
use Rattle.pli_coding.specs.Assembly.{DataPlace}
use Rattle.pli_coding.specs.Images.{picture_of}
use Rattle.pli_coding.specs.Linking.{Links, place_of}
use Rattle.pli_coding.specs.StaticForms.{formats_datum, formats_length, formats_words}
use Rattle.storage_relation.specs.Served.{Holds}
use Rattle.run_steps.specs.DataNamed.{BytesStand, IsPlaced}
use Rattle.pli_headline.specs.Headline.{FitsMemory, parts}
use Rattle.pli_headline.specs.ProvedSoFar.{AreProvedFormats, HasData}
use Rattle.pli_headline.proofs.StandingFormats.{formats_found}
use Rattle.program_runs.specs.Constants.{HasConstants}
use Rattle.program_runs.specs.Statements.{Block, IsAmong}
use Rattle.program_runs.proofs.Constants.{bytes_stand}
use Rattle.block_headlines.specs.Constants.{IsOf}
use Rattle.block_headlines.proofs.Constants.{bytes_known}
use Rattle.activation_relation.specs.Layers.{Point, now, services_of}
use Rattle.edit_runs.specs.Edits.{HasFormats}

pub list_found :
    (k : Block) (fs : T.Formats) (m : List ℕ) → AreProvedFormats fs → HasData fs →
    BytesStand k.call.code m (place_of k.call.surroundings.links (DataPlace (formats_datum fs)))
    (bytes_of_words (formats_length fs ∷ formats_words fs)) →
    HasFormats k fs m
list_found k fs m are has stand =
    let place = place_of k.call.surroundings.links (DataPlace (formats_datum fs)) in
    record {
      near = (formats_found fs k.call.code (services_of k.first) m place are has stand).0;
      read = λ v. (formats_found fs k.call.code v m place are has stand).1;
    }

pub list_known :
    (k : Block) (fs : T.Formats) → AreProvedFormats fs → HasData fs →
    HasConstants k (place_of k.call.surroundings.links (DataPlace (formats_datum fs)))
    (bytes_of_words (formats_length fs ∷ formats_words fs)) →
    (p : Point) (numbers : ℕ → ℕ) (m : List ℕ) → IsAmong k numbers p → Holds (now p m) → HasFormats k fs m
list_known k fs are has constants p numbers m o h =
    list_found k fs m are has
    (bytes_stand k numbers p m (place_of k.call.surroundings.links (DataPlace (formats_datum fs)))
    (bytes_of_words (formats_length fs ∷ formats_words fs)) o h constants)

pub list_placed :
    (program : Y.Program) (k : Block) (fs : T.Formats) → FitsMemory (picture_of parts program) → IsOf program k →
    AreProvedFormats fs → HasData fs → IsPlaced (formats_datum fs) k.call.surroundings.links.data' →
    (p : Point) (numbers : ℕ → ℕ) (m : List ℕ) → IsAmong k numbers p → Holds (now p m) → HasFormats k fs m
list_placed program k fs fits of are has placed =
    let bytes = bytes_of_words (formats_length fs ∷ formats_words fs) in
    list_known k fs are has
    (subst (λ (l : Links). HasConstants k (place_of l (DataPlace (formats_datum fs))) bytes) (sym of.links)
    (bytes_known program k bytes fits of
    (subst (λ (l : Links). IsPlaced (formats_datum fs) l.data') of.links placed)))
