-- What a block's ground says of its variables that hold texts: they are read, and stored in.
use Rattle.std.proofs.Common.{◌≡◌, ℕ, ◌+◌, ◌≤◌, List, length, Bool}
use Rattle.rv_meaning.specs.Machine.{memory_size}
use Rattle.pli_meaning.specs.BasicValues.{BasicText}
use Rattle.pli_serving.specs.Bytes.{with_bytes}
use Rattle.pli_serving.specs.Stored.{kept_bytes}
use Rattle.pli_coding.specs.Environments.{Environment}
use Rattle.pli_headline.specs.ProvedSoFar.{Names, Types}
use Rattle.run_steps.specs.Engine.{Base}
use Rattle.pli_headline.proofs.Scalars.{Values}
use Rattle.run_steps.specs.Bodies.{Ground}
use Rattle.pli_headline.proofs.Variables.{data_place}
use Rattle.pli_headline.proofs.States.{with_text_at}
use Rattle.pli_headline.proofs.TextPlaces.{text_kind_of, text_bytes, TextThere}
use Rattle.pli_headline.proofs.TextScopes.{IsTextAt, TextRoom}
use Rattle.pli_headline.proofs.TextsKept.{text_kept_as}

pub record TextsStand (e : Environment) (block : Names) (types : Types) (base : ℕ → ℕ) (free : ℕ) (ground : Values → Ground) : Type 0 where
  pub room : TextRoom e block types base
  pub under : (j : ℕ) (varying : Bool) (most : ℕ) → IsTextAt types j varying most → base j + data_place e block j + text_bytes varying most ≤ free
  pub reads : (n : Values) (j : ℕ) (varying : Bool) (most : ℕ) → IsTextAt types j varying most → (t : ℕ → ℕ) (b : Base) (m : List ℕ) → (ground n).memory t b m → TextThere varying most (base j + data_place e block j) m (n.texts j)
  pub writes : (n : Values) (j : ℕ) (varying : Bool) (most : ℕ) (text : List ℕ) → IsTextAt types j varying most → (t : ℕ → ℕ) (b : Base) (m : List ℕ) → length m ≡ memory_size → (ground n).memory t b m → (ground (with_text_at n j (text_kept_as varying most text))).memory t b (with_bytes (kept_bytes (text_kind_of varying most) (BasicText text)) (base j + data_place e block j) m)
