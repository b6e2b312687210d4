-- CHARACTER variables are pushed, whatever waits on the stack of texts.
use Rattle.std.proofs.Common.{◌≡◌, ℕ, ◌+◌, ◌<◌, ◌≤◌, List, [], ◌∷◌, ◌++◌, Bool, true, false, refl, sym, ap, ◌∙◌}
use Rattle.std.proofs.Common.{subst, arith, lit<}
use Rattle.std.specs.Prelude.{◌==◌}
use Rattle.rv_meaning.specs.Machine.{memory_size}
use Rattle.pli_typing.specs.Signatures.{data_size}
use Rattle.pli_typing.specs.TypedTree as Y
use Rattle.pli_meaning.specs.Control.{Normal, give}
use Rattle.pli_meaning.specs.DeclaredShapes.{shape_of}
use Rattle.pli_meaning.specs.StorageState.{State}
use Rattle.pli_serving.specs.Answers.{Done}
use Rattle.pli_serving.specs.ServiceState.{Entry, TextEntry}
use Rattle.pli_serving.specs.TextServices as X
use Rattle.pli_coding.specs.Assembly.{size_of}
use Rattle.pli_coding.specs.Expressions.{text_code}
use Rattle.activation_relation.specs.Layers.{services_of}
use Rattle.run_steps.specs.Items.{Linked}
use Rattle.run_steps.proofs.Jumps.{back_of, front_of}
use Rattle.run_steps.proofs.Linking.{size_append}
use Rattle.run_steps.specs.Reach.{Comes, reached}
use Rattle.run_steps.proofs.Reach.{reach_map, reach_then, reached_holds}
use Rattle.run_steps.proofs.Reaching.{reach_moved}
use Rattle.block_runs.proofs.PointGrounds.{in_known, known_in, point_frame, point_ground}
use Rattle.pli_headline.specs.ProvedSoFar.{Names}
use Rattle.pli_headline.proofs.TextPlaces.{based_offset, kind_asked, read_answer, text_asked, text_bytes, text_mode}
use Rattle.pli_headline.proofs.TextVariables.{text_gives, text_loaded}
use Rattle.std.proofs.lemmas.List.{append_assoc}
use Rattle.program_runs.specs.Statements.{Block, IsBegun, waiting, with_texts}
use Rattle.program_runs.proofs.Waiting.{begun_waits, over_first, over_more, texts_among, texts_in}
use Rattle.expression_runs.specs.Values.{Setting, behind, in_registers}
use Rattle.expression_runs.specs.Variables.{Spot, variable_of, whole}
use Rattle.expression_runs.proofs.VariablePoints.{reaches_by}
use Rattle.text_runs.specs.Laws.{TextDoes}
use Rattle.text_runs.specs.Texts.{text_aims}
use Rattle.text_runs.proofs.TextCalls.{Asking}
use Rattle.text_values.specs.Variables.{IsText, text_declared}
use Rattle.text_values.proofs.Asking.{kind_reach, offset_reach}
use Rattle.text_values.proofs.TextPoints.{data_place, text_at, text_waits}

-- ---- its code and its place

-- a block in which it is the only name
abbrev pub named_in : Block → Spot → Names
named_in k x =
    record {
      program = k.environment.program;
      at = λ j. record { number = x.block; level = x.level; index = x.index };
    }

-- its bytes lie in its data
fits_in :
    (varying : Bool) (most : ℕ) (initial : _) →
    text_bytes varying most ≤ data_size (shape_of [] (text_declared varying most initial)).signature
fits_in false most initial = omega arith
fits_in true most initial = omega arith

pub inside_text :
    (k : Block) (x : Spot) (varying : Bool) (most : ℕ) (is : IsText k x varying most) →
    is.known.base + data_place k x + text_bytes varying most ≤ memory_size
inside_text k x varying most is =
    let inside = is.known.inside in
    let few = fits_in varying most is.initial in
    omega (arith, inside, few)

pub below_memory :
    (k : Block) (x : Spot) (varying : Bool) (most : ℕ) (is : IsText k x varying most) →
    is.known.base + data_place k x < memory_size
below_memory k x varying most is = let inside = is.known.inside in omega (arith, inside)

-- ---- the text comes onto the stack

given : (text : List ℕ) (acts : ℕ) (s : State) → give text acts s ≡ Normal text s
unfolding give
given text acts s = refl

pub variable_pushes :
    (entries : List Entry) (k : Setting) (x : Spot) (varying : Bool) (most : ℕ) → IsBegun k.block →
    IsText k.block x varying most → TextDoes entries k 0 (Y.TextIn (whole x))
variable_pushes entries k x varying most begun is p numbers taken c index f o line registers l paid there =
    let w = k.block.call.surroundings in
    let code = k.block.call.code in
    let own = k.block.environment in
    let t = in_registers k.words taken in
    let waits = waiting entries k.block in
    let is' = text_waits k.block entries x varying most is in
    let n = text_at x varying most is' (begun_waits k.block entries begun) o f there in
    let text = n.text in
    let v = services_of p in
    let h = point_frame o.stands o.image in
    let e = k.block.first.control.entries in
    let q = with_texts (TextEntry text ∷ (entries ++ e)) p in
    let base = is.known.base in
    let place = data_place k.block x in
    let level = x.level == own.level in
    let same = text_loaded varying own t (named_in k.block x) 0 most (is.initial, is.known.declared) in
    let asked = text_asked level x.level 20 varying most place in
    let first = based_offset level x.level place in
    let last = kind_asked 20 varying most in
    let l' = subst (Linked w.links code index) same l in
    let joined = append_assoc _ _ last in
    let ls = subst (Linked w.links code index) (sym joined) l' in
    let e0 = ap (λ u. size_of u) joined in
    let e1 = size_append first last in
    let e2 = ap (λ u. size_of u) same in
    let small' = l.small' in
    let low = is.known.low in
    let inside = inside_text k.block x varying most is in
    let ground = point_ground w p h in
    let r1 = offset_reach {t = λ j. 0} level x.level c f base place
    (reaches_by x.level base h (begun_waits k.block entries begun) o is'.known.frame)
    (below_memory k.block x varying most is) (front_of first last ls)
    (λ b. known_in h (there b) tt) in
    let asking : Asking = record {
      number = 20;
      x = λ b. base + place;
      y = λ b. most;
      z = λ b. text_mode varying;
      first = λ b. base + place;
      second = λ b. most;
      answer = λ call x0 x1 x2. X.push_served call x0 x1 x2;
    } in
    let r2 = kind_reach {g' = point_ground w q h} asking (λ m. m) (c + size_of first) (reached r1) varying most
    (base + place) is.short (λ b. refl) (λ b. refl) (λ b. refl)
    (record {
      small' = lit< tt;
      serves = λ call r. refl;
      answers = λ b m size stands.
          read_answer varying code v m (base + place) most text is.short (omega (arith, low, small')) inside
          (n.there m stands.storage)
          ∙ ap (λ es. Done (services_of (with_texts (TextEntry text ∷ es) p)) m (base + place) most) o.entries;
      more = omega arith;
      reserved = λ b. refl;
      changed = λ b m size stands. (size, texts_in (TextEntry text ∷ (entries ++ e)) stands);
    })
    (back_of first last ls) (reached_holds r1) in
    let whole' = behind p numbers taken c index (text_code own t (Y.TextIn (whole x))) in
    subst (λ flow. Comes code c f v (text_aims entries k whole') flow)
    (sym (text_gives varying k.around p.state (variable_of x) most text w.acts n.holds ∙ given text w.acts p.state))
    (record {
      to = λ early. record {
        short = n.holds.short;
        point = q;
        numbers = numbers;
        among = texts_among k.block entries (TextEntry text ∷ entries) o
            (over_more (TextEntry text ∷ []) (entries ++ e) k.block.first.control.edits k.block.first.control.layers
            (over_first k.block entries o));
        since = omega arith;
        line = refl;
        stays = λ i less. refl;
        state = refl;
        reach = reach_map _
            (reach_moved {c'' = whole'.wanted} {i'' = whole'.index} (omega (arith, e0, e1, e2))
            (omega (arith, e0, e1, e2)) (reach_then r1 r2))
            (λ b y is''. in_known h o.image.parts is'');
      };
    })
