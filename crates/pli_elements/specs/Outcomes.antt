-- What comes of an element of a generation.
use Rattle.std.specs.Prelude.{◌≡◌, ℕ, ℤ, Bool, true, false, ◌&&◌, List, Option, Some, None, Result, Ok, Err}
use Rattle.pli_meaning.specs.Codes.{extent_code}
use Rattle.pli_meaning.specs.Contents.{is_within}
use Rattle.pli_meaning.specs.Streaming.{kind_holds}
use Rattle.pli_serving.specs.Aggregates.{Aggregate}
use Rattle.pli_serving.specs.Answers.{Done, Bad}
use Rattle.pli_serving.specs.ElementService.{element_answered}
use Rattle.pli_serving.specs.Finding.{Call, Finding}
use Rattle.pli_signatures.specs.View.{leaf_in_force}
use Rattle.pli_signatures.specs.declared.element.LeafInForce.{LeafInForce}
use Rattle.pli_typing.specs.Signatures.{LeafKind}
use Rattle.pli_answering.specs.declared.reply.Refusal.{Refusal}
use Rattle.pli_answering.specs.declared.reply.Refusal.TheVariants as F
use Rattle.pli_aggregates.specs.Elements.{stands_in}
use Rattle.pli_elements.specs.declared.standing.Outcome.{Outcome}

-- whether a leaf as it was allocated has an element in full for a kind in force
abbrev pub has_element : LeafInForce → LeafKind → List ℤ → Bool
has_element l kind is = kind_holds (leaf_in_force l).kind kind && is_within (leaf_in_force l).bounds is

abbrev pub IsStanding : (base : ℕ) → LeafInForce → LeafKind → List ℤ → Result (Option ℕ) Refusal → Type 0
IsStanding base l kind is (Ok None) = has_element l kind is ≡ false
IsStanding base l kind is (Ok (Some a)) = (has_element l kind is ≡ true) × (a ≡ stands_in base (leaf_in_force l) is)
IsStanding base l kind is (Err F.Memory) = Unit {0}
IsStanding base l kind is (Err F.Bad) = ⊥

abbrev pub IsWith : (x : ℕ) → Option ℕ → Outcome → Type 0
IsWith x None o = (o.register ≡ x) × (o.status ≡ extent_code)
IsWith x (Some a) o = (o.register ≡ a) × (o.status ≡ 0)

-- what is answered of an element of what was found, whatever the memory is then
abbrev pub IsOutcome : Call → (x : ℕ) → Aggregate → (leaf : ℕ) → List ℤ → Finding → Result Outcome Refusal → Type 0
IsOutcome c x a leaf is f (Ok o) = (memory : List ℕ) → element_answered c x a (leaf, is) memory f ≡ Done c.services memory o.register o.status
IsOutcome c x a leaf is f (Err F.Bad) = (memory : List ℕ) → element_answered c x a (leaf, is) memory f ≡ Bad
IsOutcome c x a leaf is f (Err F.Memory) = Unit {0}
