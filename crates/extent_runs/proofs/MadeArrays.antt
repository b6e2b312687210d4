-- An array whose upper bound is evaluated comes to where it is made.
use Rattle.std.proofs.Common.{◌≡◌, ◌⊎◌, inl, inr, ℕ, zero, suc, ◌+◌, ◌^◌, ◌<◌, ◌≤◌, List, [], ◌∷◌, ◌++◌, length, min, Option}
use Rattle.std.proofs.Common.{Some}
use Rattle.std.proofs.Common.{Bool, true, false, refl, sym, ap}
use Rattle.std.proofs.Common.{◌∙◌, subst, arith, append_assoc, append-nil}
use Rattle.std.proofs.lemmas.Bool.Decides.{nat_tests}
use Rattle.std.specs.Prelude.{ℤ, cond, int_le, nat_lt, pos, slice_get}
use Rattle.rv_meaning.specs.declared.instr.Instr.{Instr}
use Rattle.rv_meaning.specs.Words.{word}
use Rattle.pli_typing.specs.TypedTree as Y
use Rattle.pli_meaning.specs.BasicValues.{BasicValue, VariableName}
use Rattle.pli_meaning.specs.Contents.{fresh}
use Rattle.pli_meaning.specs.Control as F
use Rattle.pli_meaning.specs.Control.{Flow, Label, Meaning, Normal, Jump, Return, Paused, Stuck, flow_on, give}
use Rattle.pli_meaning.specs.Control.{◌>>=◌, ◌>>◌}
use Rattle.pli_meaning.specs.DeclaredShapes.{initial_of, shape_of, variables_of_block}
use Rattle.pli_meaning.specs.Executing as M
use Rattle.pli_meaning.specs.Making as K
use Rattle.pli_meaning.specs.Raising.{Around}
use Rattle.pli_meaning.specs.StorageState.{Activation, Binding, State}
use Rattle.pli_meaning.specs.declared.outcome.End.TheVariants as E
use Rattle.pli_meaning.specs.declared.outcome.Limit.TheVariants as L
use Rattle.pli_types.specs.Templates.{Template}
use Rattle.pli_serving.specs.Arguments.{own_signature}
use Rattle.pli_serving.specs.ServiceState.{Services}
use Rattle.pli_serving.specs.SignatureService.{number_from, number_of, reserved_for, same_template}
use Rattle.pli_serving.specs.Templates as T
use Rattle.pli_serving.specs.Templates.{template_of}
use Rattle.pli_coding.specs.Allocating.{act_code}
use Rattle.pli_coding.specs.Assembly.{Code, size_of}
use Rattle.pli_coding.specs.Environments.{none_taken, with_words}
use Rattle.pli_coding.specs.Expressions.{number_code}
use Rattle.pli_coding.specs.Extents.{extent_words, filled_in, number_word}
use Rattle.pli_coding.specs.Instructions.{number, store_word}
use Rattle.pli_coding.specs.Locating.{table_number}
use Rattle.pli_coding.specs.Registers.{a0, frame_register}
use Rattle.pli_coding.specs.SignatureTable.{signature_of}
use Rattle.storage_relation.specs.Stored.{Lives}
use Rattle.storage_relation.specs.Fills.{Grows, most_filled}
use Rattle.storage_relation.proofs.Fills.{grows_few, grows_then, number_within}
use Rattle.storage_relation.proofs.Numbering.{template_itself}
use Rattle.activation_relation.specs.FrameLaws.{with_waits}
use Rattle.activation_relation.specs.Landing.{closed}
use Rattle.activation_relation.specs.Layers.{Layer, Point, services_of}
use Rattle.activation_relation.specs.Points.{Stands}
use Rattle.activation_relation.specs.Variables.{Made, newest_grown, with_made}
use Rattle.activation_relation.proofs.Remaining.{numbers_remain, remains_made, remains_then, signatures_few}
use Rattle.activation_relation.proofs.Serials.{few_made}
use Rattle.run_steps.specs.Items.{Linked}
use Rattle.run_steps.proofs.Jumps.{back_of, front_of}
use Rattle.run_steps.proofs.Linking.{size_append}
use Rattle.run_steps.specs.Numbers.{IsWide}
use Rattle.run_steps.specs.Reach.{Aims, Closed, Comes, Family, Reach, cost, reached, ComesTo, GiveFew}
use Rattle.run_steps.proofs.Reach.{onward, reach_then, reach_with, reached_holds, stay}
use Rattle.block_runs.specs.Machines.{AreIn, IsImage, IsIn, acted, limits_of}
use Rattle.block_runs.proofs.CallStatements.{comes_map}
use Rattle.program_runs.specs.Statements.{Block, IsAmong, IsBegun, JumpsOut, JumpsTo}
use Rattle.program_runs.proofs.JumpsOut.{jumps_later, outs_since, returns_later}
use Rattle.program_runs.proofs.NewestBlocks.{newest_at, newest_own}
use Rattle.program_runs.proofs.Statements.{resumes_among}
use Rattle.expression_runs.specs.Values.{Setting, Stretch, behind}
use Rattle.begin_runs.specs.BehindLists.{from_point}
use Rattle.begin_runs.proofs.Begins.{out_of_all}
use Rattle.argument_runs.specs.Lists.{with_list}
use Rattle.argument_runs.proofs.GivenLists.{with_list_stands}
use Rattle.nested_calls.proofs.FullVariables.{over_comes, over_then}
use Rattle.extent_runs.specs.Both.{evaluated_from, evaluating_code, placed_from}
use Rattle.extent_runs.specs.Extents.{HasBounds, bounded_code, extent_aims, tested_code}
use Rattle.extent_runs.specs.MadeArrays.{EvaluatedArray, Fits, IsEvaluatedArray, Passes, declared_as, extents_of}
use Rattle.extent_runs.specs.MadeArrays.{filled_with, filling_with, layer_meanwhile, made_code, places_of}
use Rattle.extent_runs.specs.MadeArrays.{placement_with, template_with}
use Rattle.extent_runs.specs.MadeArrays.{IsFront}
use Rattle.extent_runs.specs.Making.{Site}
use Rattle.extent_runs.specs.Placing.{made_below, placing_code}
use Rattle.extent_runs.specs.Signatures.{IsFilling, MayFill, filled_point}
use Rattle.extent_runs.specs.Unpaid.{GoesUnpaid, MakesUnpaid, unbound, unpaid_aims}
use Rattle.extent_runs.specs.Words.{IsWaiting, both_wait, number_kept, number_waits}
use Rattle.extent_runs.proofs.Arrays.{array_filled}
use Rattle.extent_runs.proofs.Both.{extents_evaluated}
use Rattle.extent_runs.proofs.Lists.{bounds_placed}
use Rattle.extent_runs.proofs.PassedLimits.{bounds_end, passed_means}
use Rattle.extent_runs.proofs.Placing.{adjusted_means, adjusted_stands}
use Rattle.extent_runs.proofs.Signatures.{filled_remains, filled_stands}
use Rattle.extent_runs.proofs.Words.{remains_with, waits_begun}

-- ---- its code, in two stretches

regrouped :
    (a b c d e g : Code) →
    (a ++ (b ++ (c ++ ((d ++ e) ++ [])))) ++ g ≡ ((a ++ b) ++ (c ++ d)) ++ (e ++ g)
regrouped a b c d e g =
    ap (λ u. (a ++ (b ++ (c ++ u))) ++ g) (append-nil (d ++ e))
    ∙ ap (λ u. u ++ g) (ap (λ u. a ++ (b ++ u)) (sym (append_assoc c d e))
    ∙ ap (λ u. a ++ u) (sym (append_assoc b (c ++ d) e))
    ∙ sym (append_assoc a (b ++ (c ++ d)) e)
    ∙ ap (λ u. u ++ e) (sym (append_assoc a b (c ++ d))))
    ∙ append_assoc ((a ++ b) ++ (c ++ d)) e g

abbrev behind_bounds : Setting → EvaluatedArray → Code
behind_bounds k x =
    filled_in none_taken (places_of x) ++ placing_code (placement_with k.block.environment x (pos 0) k.block.first)

made_coded :
    (k : Setting) (x : EvaluatedArray) → table_number k.block.environment (declared_as x) ≡ x.evaluated.signature →
    made_code k.block.environment x ≡ evaluating_code k x.evaluated ++ behind_bounds k x
made_coded k x e =
    let part = number_code k.block.environment (with_words extent_words none_taken) x.evaluated.extent.value in
    let test = tested_code x.evaluated.extent in
    let fill = filled_in none_taken (places_of x) in
    let last = placing_code (placement_with k.block.environment x (pos 0) k.block.first) in
    let store' = store_word frame_register a0 (number_word none_taken) in
    ap (λ n. act_code x.evaluated.line ++ ((number a0 n ++ (store' ++ (part ++ ((test ++ fill) ++ [])))) ++ last)) e
    ∙ ap (λ u. act_code x.evaluated.line ++ u) (regrouped (number a0 x.evaluated.signature) store' part test fill last)
    ∙ sym (append_assoc (act_code x.evaluated.line) (number_kept x.evaluated.signature
    ++ bounded_code k x.evaluated.extent) (fill ++ last))

-- ---- the number of a signature that was there

number_early :
    (place : ℕ) (u : Template) (t : List Template) (n : ℕ) → slice_get t n ≡ Some u → number_from place u t ≤ place + n
number_early place u [] n e = absurd (cc e)
number_early place u (y ∷ t) n e = by (same_template y u) refl n e (λ m f. number_early (suc place) u t m f)
  where
    by :
        (q : Bool) → same_template y u ≡ q → (n : ℕ) → slice_get (y ∷ t) n ≡ Some u →
        ((m : ℕ) → slice_get t m ≡ Some u → number_from (suc place) u t ≤ suc place + m) →
        cond q place (number_from (suc place) u t) ≤ place + n
    by true q n e rest = omega arith
    by false q zero e rest =
        let f : y ≡ u = cc e in
        absurd (cc (sym q ∙ ap (λ z. same_template z u) f ∙ template_itself u))
    by false q (suc n) e rest = let m = rest n e in omega (arith, m)

pub signature_early :
    (k : Block) (numbers : ℕ → ℕ) (p : Point) (u : Template) (n : ℕ) → IsAmong k numbers p →
    slice_get k.first.places.signatures n ≡ Some u → number_of u p.places.signatures ≤ n
signature_early k numbers p u n o e =
    let early = number_early 0 u p.places.signatures n (numbers_remain k.first p o.later.remains n u e) in
    omega (arith, early)

pub signature_few :
    (k : Block) (numbers : ℕ → ℕ) (p : Point) (u : Template) → IsAmong k numbers p →
    (number_of u p.places.signatures ≤ length k.first.places.signatures + most_filled k.first.places.fills)
    × (p.places.fills ≡ k.first.places.fills)
signature_few k numbers p u o =
    let within = number_within u p.places.signatures in
    let few = signatures_few k.first p o.later.remains in
    (omega (arith, within, few), o.later.remains.signatures.same)

pub signature_inside :
    (k inner : Block) (numbers held : ℕ → ℕ) (p q : Point) (u : Template) → IsAmong k numbers p →
    (inner.first.places.signatures ≡ p.places.signatures) × (inner.first.places.fills ≡ p.places.fills) →
    IsAmong inner held q →
    (number_of u q.places.signatures ≤ length k.first.places.signatures + most_filled k.first.places.fills)
    × (q.places.fills ≡ k.first.places.fills)
signature_inside k inner numbers held p q u o same r =
    let within = number_within u q.places.signatures in
    let since = subst (λ t. Grows p.places.fills q.places.fills t q.places.signatures) same.0
    (subst (λ f. Grows f q.places.fills inner.first.places.signatures q.places.signatures) same.1
    r.later.remains.signatures) in
    let all = grows_then k.first.places.fills p.places.fills q.places.fills k.first.places.signatures
    p.places.signatures q.places.signatures o.later.remains.signatures since in
    let few = grows_few k.first.places.fills q.places.fills k.first.places.signatures q.places.signatures all in
    (omega (arith, within, few), all.same)

-- ---- a variable is made in a block

-- the block goes on from there: the newest block's words and its ends of the stacks have changed, and it has one more
-- variable
made_begun :
    (k : Block) {numbers : ℕ → ℕ} {q : Point} (φ : Layer) (φs : List Layer) (waits : ℕ → Option ℕ) (u : Template)
    (m : Made) → IsBegun k → IsAmong k numbers q → MayFill q u → q.control.layers ≡ φ ∷ φs →
    Stands k.call.surroundings (with_made m (with_list waits φ φs (filled_point u q))) →
    IsBegun (from_point k (with_made m (with_list waits φ φs (filled_point u q))))
made_begun k {q = q} φ φs waits u m b o may newest stands =
    let r = resumes_among b o in
    let filled' = filled_point u q in
    let answered = with_list waits φ φs filled' in
    let later = o.later.acts in
    let some = b.acts in
    let own = newest_own (newest_at b o) in
    let l = o.stands.lives in
    record {
      activation = record b.activation { bindings = binding ∷ b.activation.bindings };
      resumes = record {
        stands = stands;
        idle = r.idle;
        changed = record r.changed { waits = waits; told = m.told; top = m.top; lower = m.lower };
        layers = ap (λ ls. newest_grown m (newest_waits ls)) (sym newest ∙ r.layers);
        own = r.own;
        activations = ap (λ as'. K.with_binding binding as') r.activations;
        more = r.more;
      };
      acts = omega (arith, later, some);
      remains = remains_made k.call.point answered m
          (remains_then k.call.point filled' answered
          (remains_then k.call.point q filled' (remains_then k.call.point k.first q b.remains o.later.remains)
          (filled_remains q u may))
          (remains_with filled' φ φs waits))
          lives (omega (arith, own));
      outer = b.outer;
    }
  where
    newest_waits : List Layer → List Layer
    newest_waits [] = []
    newest_waits (ψ ∷ ψs) = with_waits waits ψ ∷ ψs

    binding : Binding
    binding =
        record { variable = m.variable; name = VariableName (q.state.serials + 1); shape = m.generation.shape }

    lives : Lives (with_list waits φ φs (filled_point u q)).places (with_list waits φ φs (filled_point u q)).state
    lives =
        let l = (filled_stands k.call.surroundings k.call.code q u (o.stands, o.image)).0.lives in
        record { falling = l.falling; numbered = l.numbered; extents = l.extents }

-- one more binding alone
made_bound :
    (b : Binding) (as' : List Activation) → unbound (K.with_binding b as') ≡ unbound as'
made_bound b [] = refl
made_bound b (a ∷ as') = refl

-- ---- what it comes to, where its bound is known

comes_known :
    {Q R : Type 0} {code : List Instr} {c : ℕ} {f : Family} {v : Services} (A : Aims Q) (B : Aims R) →
    B.limits ≡ A.limits → (acts : ℕ) (next' : Q → Meaning R) (flow : Flow Q) →
    ((r : Q) (s : State) → flow ≡ Normal r s → A.done c f v r s → Comes code c f v B (next' r acts s)) →
    ((height : ℕ) (label : Label) (s : State) → A.jumped c f v height label s → B.jumped c f v height label s) →
    ((r : Option BasicValue) (s : State) → A.returned c f v r s → B.returned c f v r s) →
    Comes code c f v A flow → Comes code c f v B (flow_on acts flow next')
comes_known {Q} {R} {code} {c} {f} {v} A B same acts next' flow d j t o =
    record { to = λ early. by flow d (o.to (subst (λ n. GiveFew code n f) same early)) early }
  where
    by :
        (flow : Flow Q) →
        ((r : Q) (s : State) → flow ≡ Normal r s → A.done c f v r s → Comes code c f v B (next' r acts s)) →
        ComesTo code c f v A flow → GiveFew code B.limits f → ComesTo code c f v B (flow_on acts flow next')
    by (Normal q s) d o early = (d q s refl o).to early
    by (Jump height label s) d o early = j height label s o
    by (Return r s) d o early = t r s o
    by (F.Ended s) d o early = o
    by (Paused s) d o early = o
    by Stuck d o early = o

-- a variable of the bound that was evaluated
abbrev variable_with : EvaluatedArray → List ℤ → Meaning (Unit {0})
variable_with x values =
    K.variable_made x.index (fresh (shape_of values (declared_as x)) (pos 0) (initial_of (declared_as x)))

number_fits : (n : ℕ) → nat_lt n own_signature ≡ true → n < 2 ^ 32
number_fits n few = grind (arith, few, nat_tests)

bytes_fit : (n : ℕ) → min (2 ^ 30) n < 2 ^ 32
bytes_fit n = omega arith

-- the extent can be filled in there
record IsReady (x : EvaluatedArray) (upper : ℤ) (q : Point) : Type 0 where
  filling : IsFilling q (filling_with x upper)
  waits : IsWaiting q (filling_with x upper) (layer_meanwhile x) x.evaluated.others

is_ready :
    {i : Block} {k : Setting} {x : EvaluatedArray} {p : Point} {numbers held : ℕ → ℕ}
    (h : IsEvaluatedArray i k x p numbers) (q : Point) (upper : ℤ) → IsAmong k.block held q → IsWide upper →
    int_le x.evaluated.extent.lower upper ≡ true →
    nat_lt (number_of (template_with x upper) q.places.signatures) own_signature ≡ true → IsReady x upper q
is_ready {i} {k} {x} h q upper among wide less few =
    let same = h.evaluated.block in
    let kept = numbers_remain k.block.first q among.later.remains x.evaluated.signature
    (template_of (signature_of (declared_as x)))
    (subst (λ (m : Block). slice_get m.first.places.signatures x.evaluated.signature
    ≡ Some (template_of (signature_of (declared_as x)))) (sym same) h.template) in
    record {
      filling = record {
        filled = array_filled x.declared x.precision x.evaluated.extent upper q.places.signatures
            x.evaluated.signature h.evaluated.lower wide less kept;
        few = few;
      };
      waits = record {
        newest = among.later.layers ∙ ap (λ (m : Block). m.first.control.layers) same;
        words = h.words;
        number = refl;
        fits = number_fits (number_of (template_with x upper) q.places.signatures) few;
        bytes = bytes_fit _;
      };
    }

-- what follows both bounds ends at an index, and its credits are enough
abbrev IsPaid : Setting → EvaluatedArray → Stretch → (end wanted : ℕ) → Type 0
IsPaid k x y end wanted =
    (end ≡ y.index + size_of (behind_bounds k x)) × (y.wanted + size_of (behind_bounds k x) ≤ wanted)
    × (y.wanted + size_of (behind_bounds k x) ≤ cost k.block.call.code)

-- from both bounds in registers, where it fits
bounds_fit :
    {i : Block} {k : Setting} {x : EvaluatedArray} {p : Point} {numbers : ℕ → ℕ} (h : IsEvaluatedArray i k x p numbers)
    (y : Stretch) (acts end wanted left' c : ℕ) (f : Family) (v : Services) (upper : ℤ) (s : State) →
    IsBegun k.block → acts ≤ y.acts → IsWide upper → int_le x.evaluated.extent.lower upper ≡ true →
    Linked k.block.call.surroundings.links k.block.call.code y.index (behind_bounds k x) →
    IsPaid k x y end wanted →
    (o : HasBounds k.block y (word x.evaluated.extent.lower) (word upper) c f v s) → Fits k.block x upper o.point →
    Comes k.block.call.code c f v (unpaid_aims (Some p) k.block acts end wanted left')
    (variable_with x (upper ∷ []) k.block.call.surroundings.acts s)
bounds_fit {i} {k} {x} {p} h y acts end wanted left' c f v upper s b since wide less l size o fit =
    let i' = k.block in
    let w = i'.call.surroundings in
    let code = i'.call.code in
    let q = o.point in
    let among = o.among in
    let φ = layer_meanwhile x in
    let fill = filling_with x upper in
    let place = placement_with i'.environment x upper q in
    let answered = filled_with x upper q in
    let first = placed_from fill φ x.evaluated.others place q in
    let ready = is_ready h q upper among wide less fit.few in
    let newest = ready.waits.newest in
    let z = both_wait (number_of (template_with x upper) q.places.signatures)
    (reserved_for q.keeper (T.shape_of (template_with x upper))) in
    let known = with_list_stands w code (filled_point (template_with x upper) q) φ x.evaluated.others z
    (filled_stands w code q (template_with x upper) (among.stands, among.image)) newest in
    let new = adjusted_stands w code answered place.variable place.layer place.others known fit.is in
    let some = o.since in
    let later = size.1 in
    let r = bounds_placed i' q fill φ x.evaluated.others place o.numbers (places_of x) y.wanted y.index
    (reached o.reach) among
    (record { fit = ((omega arith, omega arith), tt); constants = h.constants }) (ready.filling, ready.waits)
    (record {
      is = fit.is;
      initial = refl;
      words = h.words;
      number = refl;
      bytes = refl;
    })
    h.list l (reached_holds o.reach) in
    subst (λ s'. Comes code c f v (unpaid_aims (Some p) i' acts end wanted left')
    (variable_with x (upper ∷ []) w.acts s')) (sym o.state)
    (subst (λ flow. Comes code c f v (unpaid_aims (Some p) i' acts end wanted left') flow)
    (sym (adjusted_means w answered place.variable place.layer place.others w.acts fit.is))
    (record {
      to = λ early. record {
        first = first;
        begun = made_begun i' φ x.evaluated.others z (template_with x upper) (made_below place.layer place.variable) b
            among fit.may newest new.0;
        bound = made_bound _ answered.state.activations
            ∙ ap unbound (among.later.activations ∙ ap (λ (m : Block). m.first.state.activations) h.evaluated.block);
        image = new.1;
        numbers = o.numbers;
        others = among.others;
        words = among.words;
        since = omega (arith, since, some);
        state = refl;
        reach = subst (λ j. Reach code c f v wanted (services_of first) (λ b' y'. IsIn w first o.numbers j b' y'))
            (sym size.0) (reach_with wanted later (reach_then o.reach r));
      };
    }))

-- where it passes the limit
bounds_pass :
    {i : Block} {k : Setting} {x : EvaluatedArray} {p : Point} {numbers : ℕ → ℕ} (h : IsEvaluatedArray i k x p numbers)
    (y : Stretch) (acts end wanted left' c : ℕ) (f : Family) (v : Services) (upper : ℤ) (s : State) →
    IsWide upper → int_le x.evaluated.extent.lower upper ≡ true →
    Linked k.block.call.surroundings.links k.block.call.code y.index (behind_bounds k x) →
    IsPaid k x y end wanted →
    (o : HasBounds k.block y (word x.evaluated.extent.lower) (word upper) c f v s) → Passes k.block x upper o.point →
    Comes k.block.call.code c f v (unpaid_aims (Some p) k.block acts end wanted left')
    (variable_with x (upper ∷ []) k.block.call.surroundings.acts s)
bounds_pass {i} {k} {x} {p} h y acts end wanted left' c f v upper s wide less l size o pass =
    let i' = k.block in
    let w = i'.call.surroundings in
    let code = i'.call.code in
    let q = o.point in
    let φ = layer_meanwhile x in
    let place = placement_with i'.environment x upper q in
    let answered = filled_with x upper q in
    let ready = is_ready h q upper o.among wide less pass.few in
    let acts' = subst (λ (m : Block). m.call.surroundings.acts + 1 < 2 ^ 64) (sym h.evaluated.block) h.evaluated.acts in
    let over = over_then o.reach
    (bounds_end i' q (filling_with x upper) φ x.evaluated.others place o.numbers (places_of x) y.wanted y.index
    (reached o.reach) o.among
    (record { fit = ((omega arith, omega arith), tt); constants = h.constants }) (ready.filling, ready.waits)
    (record { is = pass.is; initial = refl; words = h.words; number = refl; bytes = refl })
    h.list (size.2, acts') l (reached_holds o.reach)) in
    subst (λ s'. Comes code c f v (unpaid_aims (Some p) i' acts end wanted left')
    (variable_with x (upper ∷ []) w.acts s')) (sym o.state)
    (subst (λ flow. Comes code c f v (unpaid_aims (Some p) i' acts end wanted left') flow)
    (sym (passed_means answered place.variable place.layer place.others w.acts pass.is))
    (over_comes (E.Limit L.Automatic) w.acts q.state over))

-- in either way
bounds_go :
    {i : Block} {k : Setting} {x : EvaluatedArray} {p : Point} {numbers : ℕ → ℕ} (h : IsEvaluatedArray i k x p numbers)
    (y : Stretch) (acts end wanted left' c : ℕ) (f : Family) (v : Services) (upper : ℤ) (s : State) →
    IsBegun k.block → acts ≤ y.acts → IsWide upper → int_le x.evaluated.extent.lower upper ≡ true →
    extents_of k x i.call.surroundings.acts p.state ≡ Normal (upper ∷ []) s →
    Linked k.block.call.surroundings.links k.block.call.code y.index (behind_bounds k x) →
    IsPaid k x y end wanted → HasBounds k.block y (word x.evaluated.extent.lower) (word upper) c f v s →
    Comes k.block.call.code c f v (unpaid_aims (Some p) k.block acts end wanted left')
    (variable_with x (upper ∷ []) k.block.call.surroundings.acts s)
bounds_go {i} {k} {x} {p} h y acts end wanted left' c f v upper s b since wide less e l size o =
    by (h.fits o.point o.numbers upper o.among wide less (e ∙ ap (λ s'. Normal (upper ∷ []) s') o.state))
  where
    by :
        Fits k.block x upper o.point ⊎ Passes k.block x upper o.point →
        Comes k.block.call.code c f v (unpaid_aims (Some p) k.block acts end wanted left')
        (variable_with x (upper ∷ []) k.block.call.surroundings.acts s)
    by (inl fit) = bounds_fit h y acts end wanted left' c f v upper s b since wide less l size o fit
    by (inr pass) = bounds_pass h y acts end wanted left' c f v upper s wide less l size o pass

-- whatever first point the block had
from_first :
    {like : Option Point} {i : Block} {acts end wanted left' c : ℕ} {f : Family} {v : Services}
    {flow : Flow (Unit {0})} (a : Point) →
    Comes i.call.code c f v (unpaid_aims like (from_point i a) acts end wanted left') flow →
    Comes i.call.code c f v (unpaid_aims like i acts end wanted left') flow
from_first {like} {i} {acts} {end} {wanted} {left'} {flow = flow} a o =
    comes_map (unpaid_aims like (from_point i a) acts end wanted left') (unpaid_aims like i acts end wanted left')
    refl flow
    (λ c f v r s (g : GoesUnpaid like (from_point i a) acts end wanted c f v s). record {
      first = g.first;
      begun = again g.begun;
      bound = g.bound;
      image = g.image;
      numbers = g.numbers;
      others = g.others;
      words = g.words;
      since = g.since;
      state = g.state;
      reach = g.reach;
    })
    (λ c f v height label s g. g)
    (λ c f v r s g. record { to = g.to })
    o
  where
    again : {q : Point} → IsBegun (from_point (from_point i a) q) → IsBegun (from_point i q)
    again b = b

-- ---- the whole

pub array_made :
    (i : Block) (k : Setting) (x : EvaluatedArray) (p : Point) (numbers : ℕ → ℕ) (c wanted index left' : ℕ)
    (f : Family) → Stands i.call.surroundings p × IsImage i.call.surroundings i.call.code p →
    IsEvaluatedArray i k x p numbers →
    Linked i.call.surroundings.links i.call.code index (made_code k.block.environment x) →
    (c + size_of (made_code k.block.environment x) ≤ wanted)
    × (c + size_of (made_code k.block.environment x) ≤ cost i.call.code) →
    AreIn i.call.surroundings p numbers index f →
    Comes i.call.code c f (services_of p)
    (unpaid_aims (Some p) i p.state.world.acts (index + size_of (made_code k.block.environment x)) wanted left')
    (K.automatic_made k.around x.index (declared_as x) Y.AutomaticClass i.call.surroundings.acts p.state)
unfolding K.automatic_made ◌>>=◌
array_made i k x p numbers c wanted index left' f known h l paid there =
    let w = i.call.surroundings in
    let code = i.call.code in
    let e = x.evaluated in
    let first = evaluating_code k e in
    let last = behind_bounds k x in
    let coded = made_coded k x h.table in
    let size = ap (λ u. size_of u) coded in
    let n = size_append first last in
    let n1 = size_append (act_code e.line) (number_kept e.signature ++ bounded_code k e.extent) in
    let n2 = size_append (number_kept e.signature) (bounded_code k e.extent) in
    let l' = subst (Linked w.links code index) coded l in
    let same = h.evaluated.block in
    let end = index + size_of (made_code k.block.environment x) in
    let acts = p.state.world.acts in
    let flow = extents_of k x w.acts p.state in
    let enough = h.paid in
    let less' = paid.0 in
    let low = paid.1 in
    let y : Stretch =
    behind (evaluated_from e p) numbers 0 (0 + size_of (number_kept e.signature))
    (index + size_of (act_code e.line) + size_of (number_kept e.signature)) (bounded_code k e.extent) in
    let aims = unpaid_aims (Some p) i acts end wanted left' in
    comes_known (extent_aims k.block k.labels y e.extent.lower) aims
    (ap (λ (m : Block). limits_of m.call.surroundings) (sym h.evaluated.block)) w.acts (variable_with x) flow
    (λ values s is o.
    let z = o.0 in
    let q = o.4 in
    let allowed = subst (λ (m : Block). q.point.state.world.acts ≤ m.call.surroundings.acts) same
    q.among.stands.allowed in
    let since = q.since in
    let ready = h.evaluated.begun (omega (arith, since, allowed)) in
    let b = waits_begun (from_point i (acted e.line p)) (acted e.line p) numbers e.layer e.others
    (number_waits e.signature) ready.0 ready.1 h.evaluated.newest in
    from_first (evaluated_from e p)
    (subst (λ (m : Block). Comes m.call.code c f (services_of p) (unpaid_aims (Some p) m acts end wanted left')
    (variable_with x values m.call.surroundings.acts s)) same
    (subst (λ vs. Comes k.block.call.code c f (services_of p) (unpaid_aims (Some p) k.block acts end wanted left')
    (variable_with x vs k.block.call.surroundings.acts s)) (sym o.1)
    (bounds_go h y acts end wanted left' c f (services_of p) z s (subst IsBegun (sym same) b.0) (omega arith) o.2 o.3
    (is ∙ ap (λ vs. Normal vs s) o.1)
    (subst (λ (m : Block). Linked m.call.surroundings.links m.call.code y.index last) (sym same)
    (subst (λ j. Linked w.links code j last) (omega (arith, n1, n2)) (back_of first last l'))) (
      omega (arith, size, n, n1, n2),
      omega (arith, size, n, n1, n2, less'),
      subst (λ (m : Block). y.wanted + size_of last ≤ cost m.call.code) (sym same) (omega (arith, size, n, n1, n2, low)),
    ) q))))
    (λ height label s o.
    let out = out_of_all (subst (λ labels. JumpsTo k.block labels y.acts c f (services_of p) height label s) h.labels o)
    in
    subst (λ (m : Block). JumpsOut m.call.surroundings m.call.code m.outers acts c f (services_of p) height label
    (closed s)) same
    (outs_since k.block.call.surroundings k.block.call.code k.block.outers acts y.acts c f (services_of p) height label
    (closed s) (omega arith) out))
    (λ r s o. absurd o)
    (extents_evaluated i k e p numbers c 0 index f known h.evaluated (front_of first last l')
    (omega (arith, size, n, n1, low), omega (arith, size, n, n1, n2, enough)) there)

-- ---- a procedure's last variable, and its only one

made_last :
    (around : Around) (n : ℕ) (before' : List Y.DeclaredVariable) (d : Y.DeclaredVariable) (acts : ℕ) (s s' : State) →
    K.variables_made around n before' acts s ≡ Normal tt s' →
    K.variables_made around n (before' ++ d ∷ []) acts s
    ≡ flow_on acts (K.automatic_made around (n + length before') d d.class acts s') (λ u. give tt)
unfolding K.variables_made ◌>>◌ give
made_last around n [] d acts s s' e =
    let same : s ≡ s' = cc e in
    let z : n ≡ n + 0 = omega arith in
    ap (λ t. flow_on acts (K.automatic_made around n d d.class acts t) (λ u. give tt)) same
    ∙ ap (λ m. flow_on acts (K.automatic_made around m d d.class acts s') (λ u. give tt)) z
made_last around n (x ∷ ds) d acts s s' e =
    let z : n + 1 + length ds ≡ n + suc (length ds) = omega arith in
    by (K.automatic_made around n x x.class acts s) e
    (λ t f. made_last around (n + 1) ds d acts t s' f
    ∙ ap (λ m. flow_on acts (K.automatic_made around m d d.class acts s') (λ u. give tt)) z)
  where
    by :
        (flow : Flow (Unit {0})) →
        flow_on acts flow (λ u. K.variables_made around (n + 1) ds) ≡ Normal tt s' →
        ((t : State) → K.variables_made around (n + 1) ds acts t ≡ Normal tt s' →
        K.variables_made around (n + 1) (ds ++ d ∷ []) acts t
        ≡ flow_on acts (K.automatic_made around (n + suc (length ds)) d d.class acts s') (λ u. give tt)) →
        flow_on acts flow (λ u. K.variables_made around (n + 1) (ds ++ d ∷ []))
        ≡ flow_on acts (K.automatic_made around (n + suc (length ds)) d d.class acts s') (λ u. give tt)
    by (Normal tt t) f rest = rest t f
    by (Jump height label t) f rest = absurd (cc f)
    by (Return r t) f rest = absurd (cc f)
    by (F.Ended t) f rest = absurd (cc f)
    by (Paused t) f rest = absurd (cc f)
    by Stuck f rest = absurd (cc f)

last_means :
    (x : EvaluatedArray) (around : Around) (head : Y.BlockHead) (before' : List Y.DeclaredVariable) (acts : ℕ)
    (s s' : State) → head.kind ≡ Y.ProcedureBlock →
    variables_of_block around.program head.number ≡ before' ++ declared_as x ∷ [] → x.index ≡ length before' →
    K.variables_made around 0 before' acts s ≡ Normal tt s' →
    M.block_variables_made around head head.kind acts s
    ≡ flow_on acts (K.automatic_made around x.index (declared_as x) Y.AutomaticClass acts s') (λ u. give tt)
unfolding M.block_variables_made
last_means x around head before' acts s s' kind all last made =
    let z : 0 + length before' ≡ x.index = omega (arith, last) in
    ap (λ q. M.block_variables_made around head q acts s) kind
    ∙ ap (λ ds. K.variables_made around 0 ds acts s) all
    ∙ made_last around 0 before' (declared_as x) acts s s' made
    ∙ ap (λ n. flow_on acts (K.automatic_made around n (declared_as x) Y.AutomaticClass acts s') (λ u. give tt)) z

given_back :
    {code : List Instr} {c : ℕ} {f : Family} {v : Services} (A : Aims (Unit {0})) (acts : ℕ) (flow : Flow (Unit {0})) →
    Comes code c f v A flow → Comes code c f v A (flow_on acts flow (λ u. give tt))
unfolding give
given_back A acts (Normal tt s) o = record { to = o.to }
given_back A acts (Jump height label s) o = record { to = o.to }
given_back A acts (Return r s) o = record { to = o.to }
given_back A acts (F.Ended s) o = record { to = o.to }
given_back A acts (Paused s) o = record { to = o.to }
given_back A acts Stuck o = record { to = o.to }

-- what is aimed at may be reached later, and since fewer acts
unpaid_closed :
    (like : Option Point) (k : Block) (acts index wanted left' : ℕ) →
    Closed k.call.code (unpaid_aims like k acts index wanted left')
unpaid_closed like k acts index wanted left' =
    record {
      done = λ r u s (o : GoesUnpaid like k acts index wanted _ _ _ s). record {
        first = o.first;
        begun = o.begun;
        bound = o.bound;
        image = o.image;
        numbers = o.numbers;
        others = o.others;
        words = o.words;
        since = o.since;
        state = o.state;
        reach = reach_then r o.reach;
      };
      jumped = λ r height label s o. out_of_all (jumps_later {k = k} {labels = []} {s = s} r (record { to = inr o }));
      returned = λ r u s o. returns_later r o;
    }

unpaid_since :
    {like : Option Point} {k : Block} {acts more index wanted left' c : ℕ} {f : Family} {v : Services} {flow : Flow (Unit {0})} →
    acts ≤ more → Comes k.call.code c f v (unpaid_aims like k more index wanted left') flow →
    Comes k.call.code c f v (unpaid_aims like k acts index wanted left') flow
unpaid_since {like} {k} {acts} {more} {index} {wanted} {left'} {flow = flow} since o =
    comes_map (unpaid_aims like k more index wanted left') (unpaid_aims like k acts index wanted left') refl flow
    (λ c f v r s (g : GoesUnpaid like k more index wanted c f v s).
    let on = g.since in
    record {
      first = g.first;
      begun = g.begun;
      bound = g.bound;
      image = g.image;
      numbers = g.numbers;
      others = g.others;
      words = g.words;
      since = omega (arith, since, on);
      state = g.state;
      reach = g.reach;
    })
    (λ c f v height label s g.
    outs_since k.call.surroundings k.call.code k.outers acts more c f v height label (closed s) since g)
    (λ c f v r s g. g)
    o

pub last_array :
    (z : Site) (k : Setting) (x : EvaluatedArray) (left' : ℕ) (head : Y.BlockHead) (front : Code)
    (before' : List Y.DeclaredVariable) (q : Point) → IsFront z k front before' q →
    IsEvaluatedArray z.block k x q z.numbers → head.kind ≡ Y.ProcedureBlock →
    variables_of_block k.around.program head.number ≡ before' ++ declared_as x ∷ [] → x.index ≡ length before' →
    z.variables ≡ front ++ made_code k.block.environment x →
    MakesUnpaid (Some q) z left' (M.block_variables_made k.around head head.kind)
last_array z k x left' head front before' q is h kind all last coded c wanted f known l paid there =
    let i = z.block in
    let w = i.call.surroundings in
    let code = i.call.code in
    let acts = z.start.state.world.acts in
    let array = made_code k.block.environment x in
    let size = ap (λ u. size_of u) coded in
    let n = size_append front array in
    let enough = paid.0 in
    let low = paid.1 in
    let end = z.index + size_of z.variables in
    let here : z.index + size_of front + size_of array ≡ end = omega (arith, size, n) in
    let aims = unpaid_aims (Some q) i acts end wanted left' in
    let l' = subst (Linked w.links code z.index) coded l in
    let flow = K.automatic_made k.around x.index (declared_as x) Y.AutomaticClass w.acts q.state in
    subst (Comes code c f (services_of z.start) aims)
    (sym (last_means x k.around head before' w.acts z.start.state q.state kind all last is.means))
    (onward (unpaid_closed (Some q) i acts end wanted left') (is.comes c f known (front_of front array l') there)
    (λ g at.
    given_back aims w.acts flow
    (subst (λ j. Comes code (c + size_of front) g (services_of q) (unpaid_aims (Some q) i acts j wanted left') flow) here
    (unpaid_since {k = i} is.since
    (array_made i k x q z.numbers (c + size_of front) wanted (z.index + size_of front) left' g (is.stands known) h
    (back_of front array l') (omega (arith, size, n, enough), omega (arith, size, n, low)) at)))))

nothing_before : (z : Site) (k : Setting) → IsFront z k [] [] z.start
unfolding K.variables_made give
nothing_before z k =
    let w = z.block.call.surroundings in
    let code = z.block.call.code in
    record {
      stands = λ known. known;
      comes = λ c f known l there.
          let z0 : c ≡ c + 0 = omega arith in
          let z1 : z.index ≡ z.index + 0 = omega arith in
          subst (λ m. Reach code c f (services_of z.start) m (services_of z.start)
          (λ b y. IsIn w z.start z.numbers (z.index + 0) b y)) z0
          (subst (λ j. Reach code c f (services_of z.start) c (services_of z.start)
          (λ b y. IsIn w z.start z.numbers j b y)) z1
          (stay code c f (services_of z.start) (λ b y. IsIn w z.start z.numbers z.index b y) there));
      means = refl;
      since = omega arith;
    }

pub only_array :
    (z : Site) (k : Setting) (x : EvaluatedArray) (left' : ℕ) (head : Y.BlockHead) →
    IsEvaluatedArray z.block k x z.start z.numbers → head.kind ≡ Y.ProcedureBlock →
    variables_of_block k.around.program head.number ≡ declared_as x ∷ [] → x.index ≡ 0 →
    z.variables ≡ made_code k.block.environment x →
    MakesUnpaid (Some z.start) z left' (M.block_variables_made k.around head head.kind)
only_array z k x left' head h kind only first coded =
    last_array z k x left' head [] [] z.start (nothing_before z k) h kind only first coded
