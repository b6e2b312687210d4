-- An array whose upper bound is evaluated, from the act of its extents up to the variable on the lower stack: what its
-- code comes to, whatever the bound calls and raises.
use Rattle.std.specs.Prelude.{ℕ, ℤ, ◌+◌, ◌≤◌, ◌≡◌, ◌⊎◌, int_le, List, [], ◌∷◌, ◌++◌, length, nat_lt, slice_get, Some, true}
use Rattle.rv_meaning.specs.Memory.{bytes_of_words}
use Rattle.rv_meaning.specs.Words.{word}
use Rattle.pli_typing.specs.TypedTree as Y
use Rattle.pli_meaning.specs.Control.{Meaning, Normal}
use Rattle.pli_meaning.specs.DeclaredShapes.{shape_of, variables_of_block}
use Rattle.pli_meaning.specs.Executing.{block_variables_made}
use Rattle.pli_meaning.specs.Making.{automatic_made, extents, variables_made}
use Rattle.pli_types.specs.Templates.{Template}
use Rattle.pli_serving.specs.Arguments.{own_signature}
use Rattle.pli_serving.specs.SignatureService.{number_of, reserved_for}
use Rattle.pli_serving.specs.Templates as T
use Rattle.pli_serving.specs.Templates.{template_of}
use Rattle.pli_coding.specs.Assembly.{Code, DataPlace, Datum, size_of}
use Rattle.pli_coding.specs.Entries.{adjustable_made}
use Rattle.pli_coding.specs.Environments.{Environment}
use Rattle.pli_coding.specs.Linking.{place_of}
use Rattle.pli_coding.specs.Locating.{table_number}
use Rattle.pli_coding.specs.SignatureTable.{signature_of}
use Rattle.pli_coding.specs.StaticForms.{bounds_datum}
use Rattle.storage_relation.specs.Fills.{most_filled}
use Rattle.activation_relation.specs.FrameLaws.{with_waits}
use Rattle.activation_relation.specs.Layers.{Layer, Point, services_of}
use Rattle.activation_relation.specs.Points.{Stands}
use Rattle.run_steps.specs.Items.{Linked}
use Rattle.run_steps.specs.Numbers.{IsWide}
use Rattle.run_steps.specs.Reach.{Comes, Family, Reach, cost}
use Rattle.block_runs.specs.Machines.{AreIn, IsImage, IsIn}
use Rattle.program_runs.specs.Constants.{HasConstants}
use Rattle.program_runs.specs.Statements.{Block, IsAmong}
use Rattle.expression_runs.specs.Values.{Setting}
use Rattle.extent_runs.specs.Arrays.{array_of, array_template, only_place}
use Rattle.extent_runs.specs.Both.{Evaluated, IsEvaluated}
use Rattle.extent_runs.specs.Extents.{bounds_of, evaluation_of}
use Rattle.extent_runs.specs.Lists.{list_words}
use Rattle.extent_runs.specs.Making.{Site}
use Rattle.extent_runs.specs.PassedLimits.{PassesLimit}
use Rattle.extent_runs.specs.Placing.{Adjustable, IsAdjustable, Placement}
use Rattle.extent_runs.specs.Signatures.{Filling, MayFill}
use Rattle.extent_runs.specs.Unpaid.{MakesUnpaid, unpaid_aims}
use Rattle.extent_runs.specs.Words.{answered_point, both_wait, number_waits}

-- ---- the array

-- what its extents are evaluated by, all else that is declared of it, its index among the variables of its block, where
-- its name stands in the frame, and where the list of its extent's places stands in static data
pub record EvaluatedArray : Type 0 where
  pub evaluated : Evaluated
  pub declared : Y.DeclaredVariable
  pub precision : ℕ
  pub index : ℕ
  pub place : ℕ
  pub at : ℕ

abbrev pub declared_as : EvaluatedArray → Y.DeclaredVariable
declared_as x = array_of x.declared x.precision x.evaluated.extent

abbrev pub places_of : EvaluatedArray → Datum
places_of x = bounds_datum (bounds_of x.evaluated.extent) (declared_as x).leaves

abbrev pub made_code : Environment → EvaluatedArray → Code
made_code e x = adjustable_made e x.evaluated.line x.place (declared_as x)

-- what its extents mean
abbrev pub extents_of : Setting → EvaluatedArray → Meaning (List ℤ)
extents_of k x = extents k.around (evaluation_of x.evaluated.extent ∷ [])

-- ---- with an upper bound

abbrev pub template_with : EvaluatedArray → (upper : ℤ) → Template
template_with x upper = array_template x.precision x.evaluated.extent.lower upper

abbrev pub filling_with : EvaluatedArray → (upper : ℤ) → Filling
filling_with x upper =
    record {
      number = x.evaluated.signature;
      places = only_place;
      at = x.at;
      lower = word x.evaluated.extent.lower;
      upper = word upper;
      template = template_with x upper;
    }

-- the newest block's layer while they are evaluated, and the point that has the signature
abbrev pub layer_meanwhile : EvaluatedArray → Layer
layer_meanwhile x = with_waits (number_waits x.evaluated.signature) x.evaluated.layer

abbrev pub filled_with : EvaluatedArray → (upper : ℤ) → Point → Point
filled_with x upper q = answered_point (filling_with x upper) (layer_meanwhile x) x.evaluated.others q

abbrev pub adjustable_with : EvaluatedArray → (upper : ℤ) → Point → Adjustable
adjustable_with x upper q =
    record {
      index = x.index;
      shape = shape_of (upper ∷ []) (declared_as x);
      number = number_of (template_with x upper) q.places.signatures;
      place = x.place;
      bytes = reserved_for q.keeper (T.shape_of (template_with x upper));
    }

abbrev pub placement_with : Environment → EvaluatedArray → (upper : ℤ) → Point → Placement
placement_with e x upper q =
    record {
      variable = adjustable_with x upper q;
      layer =
          with_waits
          (both_wait (number_of (template_with x upper) q.places.signatures)
          (reserved_for q.keeper (T.shape_of (template_with x upper)))) (layer_meanwhile x);
      others = x.evaluated.others;
      environment = e;
      declared = declared_as x;
    }

-- at a point of the block a number is left for its signature, which a run may fill in, and the variable can be made
pub record Fits (k : Block) (x : EvaluatedArray) (upper : ℤ) (q : Point) : Type 0 where
  pub few : nat_lt (number_of (template_with x upper) q.places.signatures) own_signature ≡ true
  pub may : MayFill q (template_with x upper)
  pub is :
      IsAdjustable k.call.surroundings (filled_with x upper q) (adjustable_with x upper q)
      (placement_with k.environment x upper q).layer x.evaluated.others

-- or it passes the limit on what is AUTOMATIC
pub record Passes (k : Block) (x : EvaluatedArray) (upper : ℤ) (q : Point) : Type 0 where
  pub few : nat_lt (number_of (template_with x upper) q.places.signatures) own_signature ≡ true
  pub is :
      PassesLimit (filled_with x upper q) (adjustable_with x upper q) (placement_with k.environment x upper q).layer
      x.evaluated.others

-- ---- the law

-- its template has its number where the extents are evaluated; and whatever they come to, the array fits there or
-- passes the limit. Its upper bound is known to be what its extents mean, so what is known of that helps.
pub record IsEvaluatedArray (i : Block) (k : Setting) (x : EvaluatedArray) (p : Point) (numbers : ℕ → ℕ) : Type 0
  where
    pub evaluated : IsEvaluated i k x.evaluated p numbers
    pub labels : k.labels ≡ []
    pub words : 2 ≤ x.evaluated.layer.words
    pub template :
        slice_get p.places.signatures x.evaluated.signature ≡ Some (template_of (signature_of (declared_as x)))
    pub table : table_number k.block.environment (declared_as x) ≡ x.evaluated.signature
    pub constants : HasConstants k.block x.at (bytes_of_words (list_words only_place))
    pub list : place_of k.block.call.surroundings.links (DataPlace (places_of x)) ≡ x.at
    pub serials : 1 ≤ k.block.call.surroundings.serials
    pub paid : size_of (made_code k.block.environment x) + k.most ≤ cost i.call.code
    pub fits :
        (q : Point) (held : ℕ → ℕ) (upper : ℤ) → IsAmong k.block held q → IsWide upper →
        int_le x.evaluated.extent.lower upper ≡ true →
        extents_of k x i.call.surroundings.acts p.state ≡ Normal (upper ∷ []) q.state →
        Fits k.block x upper q ⊎ Passes k.block x upper q

-- what straight code makes of the variables that are declared before it, up to a point
pub record IsFront (z : Site) (k : Setting) (front : Code) (before' : List Y.DeclaredVariable) (q : Point) : Type 0
  where
    pub stands :
        Stands z.block.call.surroundings z.start × IsImage z.block.call.surroundings z.block.call.code z.start →
        Stands z.block.call.surroundings q × IsImage z.block.call.surroundings z.block.call.code q
    pub comes :
        (credits : ℕ) (f : Family) →
        Stands z.block.call.surroundings z.start × IsImage z.block.call.surroundings z.block.call.code z.start →
        Linked z.block.call.surroundings.links z.block.call.code z.index front →
        AreIn z.block.call.surroundings z.start z.numbers z.index f →
        Reach z.block.call.code credits f (services_of z.start) (credits + size_of front) (services_of q)
        (λ b y. IsIn z.block.call.surroundings q z.numbers (z.index + size_of front) b y)
    pub means :
        variables_made k.around 0 before' z.block.call.surroundings.acts z.start.state ≡ Normal tt q.state
    pub since : z.start.state.world.acts ≤ q.state.world.acts

pub record ArraysMade : Type 0 where
  -- a signature that stood in the table at the block's first statement has a number there at each of its points
  pub early :
      (k : Block) (numbers : ℕ → ℕ) (p : Point) (u : Template) (n : ℕ) → IsAmong k numbers p →
      slice_get k.first.places.signatures n ≡ Some u → number_of u p.places.signatures ≤ n
  -- and no number is greater than those that were there and those that may be filled in, which are the same ones
  pub few :
      (k : Block) (numbers : ℕ → ℕ) (p : Point) (u : Template) → IsAmong k numbers p →
      (number_of u p.places.signatures ≤ length k.first.places.signatures + most_filled k.first.places.fills)
      × (p.places.fills ≡ k.first.places.fills)
  -- nor at a point of a block that was entered at one of its points
  pub inside :
      (k inner : Block) (numbers held : ℕ → ℕ) (p q : Point) (u : Template) → IsAmong k numbers p →
      (inner.first.places.signatures ≡ p.places.signatures) × (inner.first.places.fills ≡ p.places.fills) →
      IsAmong inner held q →
      (number_of u q.places.signatures ≤ length k.first.places.signatures + most_filled k.first.places.fills)
      × (q.places.fills ≡ k.first.places.fills)
  -- its code comes to where it is made, or the extents' code leaves the block by a jump, or the run ends: as it means
  pub one :
      (i : Block) (k : Setting) (x : EvaluatedArray) (p : Point) (numbers : ℕ → ℕ)
      (credits wanted index left' : ℕ) (f : Family) →
      Stands i.call.surroundings p × IsImage i.call.surroundings i.call.code p → IsEvaluatedArray i k x p numbers →
      Linked i.call.surroundings.links i.call.code index (made_code k.block.environment x) →
      (credits + size_of (made_code k.block.environment x) ≤ wanted)
      × (credits + size_of (made_code k.block.environment x) ≤ cost i.call.code) →
      AreIn i.call.surroundings p numbers index f →
      Comes i.call.code credits f (services_of p)
      (unpaid_aims (Some p) i p.state.world.acts (index + size_of (made_code k.block.environment x)) wanted left')
      (automatic_made k.around x.index (declared_as x) Y.AutomaticClass i.call.surroundings.acts p.state)
  -- a procedure's only variable is made so
  pub only :
      (z : Site) (k : Setting) (x : EvaluatedArray) (left' : ℕ) (head : Y.BlockHead) →
      IsEvaluatedArray z.block k x z.start z.numbers → head.kind ≡ Y.ProcedureBlock →
      variables_of_block k.around.program head.number ≡ declared_as x ∷ [] → x.index ≡ 0 →
      z.variables ≡ made_code k.block.environment x →
      MakesUnpaid (Some z.start) z left' (block_variables_made k.around head head.kind)
  -- and so is the last one, behind what straight code makes
  pub behind :
      (z : Site) (k : Setting) (x : EvaluatedArray) (left' : ℕ) (head : Y.BlockHead) (front : Code)
      (before' : List Y.DeclaredVariable) (q : Point) → IsFront z k front before' q →
      IsEvaluatedArray z.block k x q z.numbers → head.kind ≡ Y.ProcedureBlock →
      variables_of_block k.around.program head.number ≡ before' ++ declared_as x ∷ [] → x.index ≡ length before' →
      z.variables ≡ front ++ made_code k.block.environment x →
      MakesUnpaid (Some q) z left' (block_variables_made k.around head head.kind)
