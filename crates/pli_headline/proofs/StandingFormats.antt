-- Format lists that stand in memory are found as the meaning's lists.
use Rattle.std.proofs.Common.{◌≡◌, ℕ, ◌+◌, ◌*◌, ◌^◌, ◌<◌, List, ◌∷◌, length, Some, arith}
use Rattle.rv_meaning.specs.declared.instr.Instr.{Instr}
use Rattle.rv_meaning.specs.Memory.{bytes_of_words}
use Rattle.rv_meaning.proofs.ImageBytes.{length-bytes_of_words}
use Rattle.pli_language.specs.Tree as T
use Rattle.pli_meaning.specs.Streaming.{format_items}
use Rattle.pli_serving.specs.ServiceState.{Services}
use Rattle.pli_serving.specs.FormatLists.{formats_at}
use Rattle.pli_coding.specs.StaticForms.{formats_length, formats_words}
use Rattle.pli_headline.specs.ProvedSoFar.{AreProvedFormats, HasData}
use Rattle.run_steps.specs.Engine.{call_at}
use Rattle.run_steps.specs.DataNamed.{BytesStand}
use Rattle.pli_headline.proofs.FormatsRead.{items_within, length_within, AreWords, words_stand, formats_are_words, words_length, formats_read}
use Rattle.pli_headline.proofs.FormatData.{has_format}

formats_size : (fs : T.Formats) → AreProvedFormats fs → length (bytes_of_words (formats_length fs ∷ formats_words fs)) ≡ 4 + 12 * items_within fs
formats_size fs are =
    let e = words_length fs are in
    let f = length-bytes_of_words (formats_words fs) in
    omega (arith, e, f)

pub formats_found : (fs : T.Formats) (code : List Instr) (v : Services) (m : List ℕ) (at : ℕ) → AreProvedFormats fs → HasData fs → BytesStand code m at (bytes_of_words (formats_length fs ∷ formats_words fs)) → (at < 2 ^ 32) × (formats_at (call_at code v m) at ≡ Some (format_items fs))
formats_found fs code v m at are has stands =
    let ws = formats_length fs ∷ formats_words fs in
    let inside = stands.inside in
    let size = formats_size fs are in
    let own = length_within fs in
    let words : AreWords ws = (omega (arith, inside, size, own), formats_are_words fs (omega (arith, inside, size)) are) in (
      omega (arith, inside),
      formats_read fs (call_at code v m) at are (has_format fs has) stands.behind_code (omega (arith, inside, size)) (words_stand m at ws words stands.bytes_are),
    )
