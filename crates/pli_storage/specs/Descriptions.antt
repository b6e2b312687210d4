-- A leaf that is described in memory.
use Rattle.std.specs.Prelude.{◌≡◌, ℕ, List, Option, Some, None, Result, Ok, Err}
use Rattle.pli_meaning.specs.Codes.{no_generation_code}
use Rattle.pli_meaning.specs.Contents.{leaves_with}
use Rattle.pli_serving.specs.Answers.{Answer, Done}
use Rattle.pli_serving.specs.Arguments.{shape_of_number, where_found}
use Rattle.pli_serving.specs.Finding.{Call, Finding}
use Rattle.pli_serving.specs.Names.{resolved}
use Rattle.pli_serving.specs.Outcomes.{or_bad}
use Rattle.pli_answering.specs.declared.reply.Refusal.{Refusal}
use Rattle.pli_answering.specs.declared.reply.Refusal.TheVariants as F

-- the memory is the one described; or there is none such, or no memory for the words, and it stays
abbrev pub IsDescribed : Option (List ℕ) → (old : List ℕ) → Result (Unit {0}) Refusal → (new : List ℕ) → Type 0
IsDescribed described old (Ok done) new = described ≡ Some new
IsDescribed described old (Err F.Bad) new = (described ≡ None) × (new ≡ old)
IsDescribed described old (Err F.Memory) new = new ≡ old

-- where a leaf of what was asked for begins
abbrev pub leaf_resolved : Call → (name leaf buffer : ℕ) → Option Finding → Answer
leaf_resolved c name leaf buffer o =
    where_found o
    (Done c.services c.memory name no_generation_code)
    (λ f. or_bad (shape_of_number c f.signature) (λ s. resolved c leaf buffer f (leaves_with f.extent s)))
