-- What is known of texts of a block is known while others wait, while a place in a format list is in use, and in a
-- block that knows the same variables.
use Rattle.std.proofs.Common.{◌≡◌, ℕ, ◌+◌, ◌*◌, ◌≤◌, Bool, List, length, ap, ◌∙◌, sym, subst}
use Rattle.std.specs.Prelude.{Option}
use Rattle.rv_meaning.specs.declared.instr.Instr.{Instr}
use Rattle.pli_typing.specs.TypedTree as Y
use Rattle.pli_serving.specs.ServiceState.{EditPlace, Entry}
use Rattle.pli_coding.specs.Assembly.{ConstantBytes, DataPlace}
use Rattle.pli_coding.specs.Linking.{place_of}
use Rattle.activation_relation.specs.Points.{Surroundings}
use Rattle.program_runs.specs.Constants.{HasConstants}
use Rattle.program_runs.specs.Statements.{Block, waiting}
use Rattle.expression_runs.specs.Variables.{Spot}
use Rattle.variable_runs.specs.Known.{IsKnown}
use Rattle.edit_runs.specs.Edits.{placing}
use Rattle.text_values.specs.Variables.{IsText, KnowsText}

pub constant_waits :
    (k : Block) (entries : List Entry) (bytes : List ℕ) → KnowsText k bytes → KnowsText (waiting entries k) bytes
constant_waits k entries bytes h = record { behind_code = h.behind_code; inside = h.inside; told = h.told }

pub constant_placed :
    (k : Block) (place : EditPlace) (bytes : List ℕ) → KnowsText k bytes → KnowsText (placing place k) bytes
constant_placed k place bytes h = record { behind_code = h.behind_code; inside = h.inside; told = h.told }

abbrev pub text_placed :
    (k : Block) (place : EditPlace) (x : Spot) (varying : Bool) (most : ℕ) → IsText k x varying most →
    IsText (placing place k) x varying most
text_placed k place x varying most is =
    let h = is.known in
    record {
      initial = is.initial;
      known = record {
        declared = h.declared;
        serial = h.serial;
        binding = h.binding;
        living = h.living;
        lives = h.lives;
        shape = h.shape;
        base = h.base;
        frame = h.frame;
        at = h.at;
        low = h.low;
        inside = h.inside;
      };
      short = is.short;
    }

pub text_inner :
    (k inner : Block) (x : Spot) (varying : Bool) (most : ℕ) →
    ((d : Y.DeclaredVariable) → IsKnown k x d → IsKnown inner x d) → IsText k x varying most →
    IsText inner x varying most
text_inner k inner x varying most known is =
    record { initial = is.initial; known = known _ is.known; short = is.short }

pub constant_inner :
    (k inner : Block) (bytes : List ℕ) → inner.call.code ≡ k.call.code →
    inner.call.surroundings ≡ k.call.surroundings → inner.first.places.constants ≡ k.first.places.constants →
    KnowsText k bytes → KnowsText inner bytes
constant_inner k inner bytes code around told h =
    let place : Surroundings → ℕ = λ w. place_of w.links (DataPlace (ConstantBytes bytes)) in
    subst (λ w. HasConstants inner (place w) bytes) (sym around)
    (record {
      behind_code = subst (λ (c : List Instr). 4 * length c ≤ place k.call.surroundings) (sym code) h.behind_code;
      inside = h.inside;
      told = λ n few.
          ap (λ (f : ℕ → Option ℕ). f (place k.call.surroundings + n)) told ∙ h.told n few;
    })
