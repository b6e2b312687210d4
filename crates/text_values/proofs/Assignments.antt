-- Assignments of texts to CHARACTER variables: the act, the text, and the store; the act pays for all of it.
use Rattle.std.proofs.Common.{◌≡◌, ℕ, ◌+◌, ◌≤◌, List, [], ◌∷◌, ◌++◌, length, Bool, refl, sym, ap, ◌∙◌}
use Rattle.std.proofs.Common.{subst, arith, lit<}
use Rattle.std.specs.Prelude.{◌==◌}
use Rattle.rv_meaning.specs.Machine.{memory_size}
use Rattle.pli_typing.specs.TypedTree as Y
use Rattle.pli_meaning.specs.BasicValues.{BasicText, BasicValue}
use Rattle.pli_meaning.specs.Control.{Label, Meaning, act, give, ◌>>=◌, ◌>>◌}
use Rattle.pli_meaning.specs.Evaluating as V
use Rattle.pli_meaning.specs.Executing as M
use Rattle.pli_meaning.specs.Raising.{at_line}
use Rattle.pli_meaning.specs.World.{counted}
use Rattle.pli_serving.specs.Answers.{Done}
use Rattle.pli_serving.specs.Bytes.{with_bytes}
use Rattle.pli_serving.specs.ServiceState.{Services, TextEntry}
use Rattle.pli_serving.specs.TextServices as X
use Rattle.pli_coding.specs.Allocating.{act_code}
use Rattle.pli_coding.specs.Assembly.{Code, size_of}
use Rattle.pli_coding.specs.Expressions.{text_code}
use Rattle.pli_coding.specs.Storing.{top_stored}
use Rattle.activation_relation.specs.Layers.{Point, services_of}
use Rattle.run_steps.specs.Engine.{call_at}
use Rattle.run_steps.specs.Items.{Linked}
use Rattle.run_steps.proofs.Jumps.{back_of, front_of}
use Rattle.run_steps.proofs.Linking.{size_append}
use Rattle.run_steps.specs.Owing.{owing}
use Rattle.run_steps.proofs.Owing.{comes_owing, done_owing, owing_closed}
use Rattle.run_steps.specs.Reach.{Comes, Family, Reach, before, reached}
use Rattle.run_steps.proofs.Reach.{before_closed, comes_on, onward, reach_map, reach_then, reached_holds}
use Rattle.run_steps.proofs.Reaching.{reach_moved}
use Rattle.std.proofs.lemmas.List.{append_assoc}
use Rattle.block_runs.specs.Machines.{AreIn, IsIn, acted}
use Rattle.block_runs.proofs.CallStatements.{comes_map}
use Rattle.block_runs.proofs.PointActs.{act_comes}
use Rattle.block_runs.proofs.PointGrounds.{in_known, known_in, point_frame, point_ground}
use Rattle.pli_headline.proofs.TextPlaces.{based_offset, kept_answer, kind_asked, text_asked, text_mode}
use Rattle.pli_headline.proofs.TextVariables.{text_assigned as text_meant, text_kept}
use Rattle.pli_headline.proofs.TextsKept.{kept_length}
use Rattle.pli_headline.proofs.WrittenBytes.{length-with_bytes}
use Rattle.program_runs.specs.Statements.{Block, DoesWith, IsAmong, IsBegun, set_aside, size_with, statement_aims}
use Rattle.program_runs.specs.Statements.{waiting, with_texts}
use Rattle.program_runs.proofs.JumpsOut.{jumps_repaid, jumps_since}
use Rattle.program_runs.proofs.Statements.{acted_among, goes_here, statement_closed}
use Rattle.program_runs.proofs.Waiting.{begun_waits, texts_among, texts_in}
use Rattle.expression_runs.specs.Assignments.{setting_around}
use Rattle.expression_runs.specs.Values.{behind}
use Rattle.expression_runs.specs.Variables.{Spot, variable_of, whole}
use Rattle.expression_runs.proofs.VariablePoints.{reaches_by}
use Rattle.text_runs.specs.Laws.{TextDoes}
use Rattle.text_runs.specs.Texts.{IsShort, text_aims}
use Rattle.text_runs.proofs.TextCalls.{Asking}
use Rattle.text_values.specs.Assignments.{IsTextAssignment, text_assigned}
use Rattle.text_values.specs.Variables.{IsText}
use Rattle.text_values.proofs.Asking.{kind_reach, offset_reach}
use Rattle.text_values.proofs.TextPoints.{TextAt, data_place, text_at, text_waits}
use Rattle.text_values.proofs.TextStores.{Storing, behind_stored, bytes_for, memory_behind, services_same}
use Rattle.text_values.proofs.TextStores.{stands_stored, stored_among}
use Rattle.text_values.proofs.Variables.{below_memory, inside_text, named_in}

-- ---- the store

abbrev pub storing :
    {k : Block} {x : Spot} {varying : Bool} {most base : ℕ} {p : Point} → most ≤ 1024 →
    TextAt k x varying most base p → List ℕ → Storing p
storing {varying = varying} {most = most} short n text =
    record {
      varying = varying;
      most = most;
      short = short;
      serial = n.holds.serial;
      values = n.holds.values;
      living = n.living;
      lives = n.lives;
      generation = n.generation;
      text = text;
    }

abbrev stores : Block → Spot → (varying : Bool) → (most : ℕ) → Code
stores k x varying most =
    text_asked (x.level == k.environment.level) x.level 27 varying most (data_place k x)

-- the point behind it, where the text is gone
abbrev pub point_behind : (k : Block) → {p : Point} → Storing p → Point
point_behind k {p} a = with_texts k.first.control.entries (behind_stored p a)

-- the top text is stored: from there to the point behind
store_reaches :
    (k : Block) (x : Spot) (varying : Bool) (most : ℕ) (is : IsText k x varying most) {numbers : ℕ → ℕ} {p : Point}
    {index : ℕ} (text : List ℕ) → IsShort text → IsBegun k →
    (o : IsAmong (waiting (TextEntry text ∷ []) k) numbers p) (c : ℕ) (f : Family)
    (n : TextAt (waiting (TextEntry text ∷ []) k) x varying most is.known.base p) →
    Linked k.call.surroundings.links k.call.code index (stores k x varying most) →
    AreIn k.call.surroundings p numbers index f →
    Reach k.call.code c f (services_of p) (c + size_of (stores k x varying most))
    (services_of (point_behind k (storing is.short n text)))
    (λ b y. IsIn k.call.surroundings (point_behind k (storing is.short n text)) numbers
    (index + size_of (stores k x varying most)) b y)
store_reaches k x varying most is {numbers} {p} {index} text short begun o c f n l there =
    let w = k.call.surroundings in
    let code = k.call.code in
    let a = storing is.short n text in
    let q = point_behind k a in
    let v = services_of p in
    let e = k.first.control.entries in
    let waits = waiting (TextEntry text ∷ []) k in
    let is' = text_waits k (TextEntry text ∷ []) x varying most is in
    let h = point_frame o.stands o.image in
    let base = is.known.base in
    let place = data_place k x in
    let level = x.level == k.environment.level in
    let first = based_offset level x.level place in
    let last = kind_asked 27 varying most in
    let joined = append_assoc _ _ last in
    let ls = subst (Linked w.links code index) (sym joined) l in
    let e0 = ap (λ u. size_of u) joined in
    let e1 = size_append first last in
    let small' = l.small' in
    let low = is.known.low in
    let inside = inside_text k x varying most is in
    let long = kept_length varying most text in
    let r1 = offset_reach {t = λ j. 0} level x.level c f base place
    (reaches_by x.level base h (begun_waits k (TextEntry text ∷ []) begun) o is'.known.frame)
    (below_memory k x varying most is) (front_of first last ls)
    (λ b. known_in h (there b) tt) in
    let asking : Asking = record {
      number = 27;
      x = λ b. base + place;
      y = λ b. most;
      z = λ b. text_mode varying;
      first = λ b. length text;
      second = λ b. most;
      answer = λ call x0 x1 x2. X.store_served call x0 x1 x2;
    } in
    let r2 = kind_reach {g' = point_ground w q h} asking (memory_behind p a) (c + size_of first) (reached r1) varying
    most (base + place) is.short (λ b. refl) (λ b. refl) (λ b. refl)
    (record {
      small' = lit< tt;
      serves = λ call r. refl;
      answers = λ b m size stands.
          ap (λ es. X.store_served (call_at code (services_of (with_texts es p)) m) (base + place) most
          (text_mode varying)) o.entries
          ∙ kept_answer varying code (services_of (with_texts e p)) m (base + place) most text is.short
          (omega (arith, low, small')) inside
          ∙ ap (λ i. Done (services_of (with_texts e p)) (with_bytes (bytes_for a) i m) (length text) most)
          (sym n.here)
          ∙ ap (λ (u : Services). Done (record u { entries = e }) (memory_behind p a m) (length text) most)
          (sym (services_same p a));
      more = same_acts (services_same p a);
      reserved = λ b. refl;
      changed = λ b m size stands. (
        length-with_bytes (bytes_for a) m (p.places.at a.serial) (room n.here inside long size) ∙ size,
        texts_in e (stands_stored w p a b m o.stands stands),
      );
    })
    (back_of first last ls) (reached_holds r1) in
    reach_map _
    (reach_moved {c'' = c + size_of (stores k x varying most)} {i'' = index + size_of (stores k x varying most)}
    (omega (arith, e0, e1)) (omega (arith, e0, e1)) (reach_then r1 r2))
    (λ b y s. in_known h o.image.parts s)
  where
    same_acts : {u v : Services} → u ≡ v → v.world.acts ≤ u.world.acts
    same_acts {u} {v} e = subst (λ (y : Services). v.world.acts ≤ y.world.acts) (sym e) (omega arith)

    room : {at place bytes long size : ℕ} → at ≡ place → place + bytes ≤ memory_size → long ≡ bytes →
        size ≡ memory_size → at + long ≤ size
    room a b c d = omega (arith, a, b, c, d)

-- ---- the statement

abbrev put_in : Block → Spot → (line : ℕ) → BasicValue → Meaning (Unit {0})
put_in k x line v = M.assigned (at_line k.around line) (whole x) v

-- the text goes to the variable, and the act has paid for it
stored_goes :
    (k : Block) (labels : List Label) (x : Spot) (varying : Bool) (most : ℕ) (is : IsText k x varying most) →
    IsBegun k → (line left' acts wanted debt i c : ℕ) {f : Family} {p : Point} {numbers : ℕ → ℕ} {index : ℕ}
    (text : List ℕ) → IsShort text → IsAmong (waiting (TextEntry text ∷ []) k) numbers p →
    acts ≤ p.state.world.acts → c + size_of (stores k x varying most) ≤ wanted + debt →
    index + size_of (stores k x varying most) ≡ i →
    Linked k.call.surroundings.links k.call.code index (stores k x varying most) →
    AreIn k.call.surroundings p numbers index f →
    Comes k.call.code c f (services_of p) (owing k.call.code debt (statement_aims k labels acts i wanted left'))
    (put_in k x line (BasicText text) k.call.surroundings.acts p.state)
stored_goes k labels x varying most is begun line left' acts wanted debt i c {f} {p} {numbers} {index} text short o
    since paid end l there =
    let w = k.call.surroundings in
    let code = k.call.code in
    let aims = statement_aims k labels acts i wanted left' in
    let is' = text_waits k (TextEntry text ∷ []) x varying most is in
    let n = text_at x varying most is' (begun_waits k (TextEntry text ∷ []) begun) o f there in
    let a = storing is.short n text in
    let q = point_behind k a in
    let r = store_reaches k x varying most is text short begun o c f n l there in
    let among = texts_among k (TextEntry text ∷ []) [] (stored_among a o) begun.resumes.stands.over in
    subst (λ flow. Comes code c f (services_of p) (owing code debt aims) flow)
    (sym (text_meant varying (at_line k.around line) p.state (variable_of x) most n.text text w.acts n.holds))
    (record {
      to = λ early. done_owing (statement_closed k labels acts i wanted left') debt wanted paid r tt q.state
          (λ g' at'. goes_here acts wanted g' since among
          (λ b. subst (λ j. IsIn w q numbers j b (g' b)) end (at' b)));
    })

pub text_assign_does :
    (words : ℕ) (k : Block) (labels : List Label) (x : Spot) (varying : Bool) (size : ℕ) (source : Y.Text)
    (line index left' need most : ℕ) → IsTextAssignment words k x varying size source line index need most →
    TextDoes [] (setting_around words k labels line most) need source →
    DoesWith words k labels (text_assigned x source line) index left'
unfolding M.statement V.stored_value ◌>>=◌ ◌>>◌ give
text_assign_does words k labels x varying size source line index left' need most h ev p numbers c wanted f o paid
    there =
    let w = k.call.surroundings in
    let code = k.call.code in
    let e = k.environment in
    let t = set_aside words in
    let s = setting_around words k labels line most in
    let stmt = text_assigned x source line in
    let around' = at_line k.around line in
    let one = act_code line in
    let pushed' = text_code e t source in
    let store' = top_stored e t (whole x) in
    let coded = text_kept varying e t (named_in k x) 0 size (h.text.initial, h.text.known.declared) in
    let n0 = size_append one (pushed' ++ store') in
    let n1 = size_append pushed' store' in
    let n3 = ap (λ u. size_of u) coded in
    let l1 = back_of one (pushed' ++ store') h.statement in
    let lv = front_of pushed' store' l1 in
    let ls = subst (Linked w.links code (index + size_of one + size_of pushed')) coded (back_of pushed' store' l1) in
    let debt = size_of pushed' + size_of store' in
    let acts = p.state.world.acts in
    let aims = statement_aims k labels acts (index + size_with words k stmt) wanted left' in
    let owed = owing code debt aims in
    let closed = owing_closed code debt aims in
    let source' = V.stored_value around' (Y.StoredText source) in
    let next' : Unit {0} → Meaning (Unit {0}) = λ u. source' >>= (λ v. put_in k x line v) in
    let as_value : List ℕ → Meaning BasicValue = λ u. give (BasicText u) in
    let all = h.paid in
    comes_owing debt (M.statement k.around stmt w.acts p.state)
    (comes_on w.acts (act counted w.acts p.state) next'
    (act_comes (before_closed w.acts next' closed) line (c + debt) 0 f (o.stands, o.image)
    (h.act.line_fits, h.act.acts, omega (arith, paid, n0, n1)) (front_of one (pushed' ++ store') h.statement) there
    (λ g less at.
    let p' = acted line p in
    let o' = acted_among line o less in
    let flow = V.text around' source w.acts p'.state in
    let y = behind p' numbers 0 0 (index + size_of one) pushed' in
    comes_on w.acts (source' w.acts p'.state) (λ v. put_in k x line v)
    (comes_on w.acts flow as_value
    (comes_map (text_aims [] s y)
    (before code (before code owed w.acts (λ v. put_in k x line v)) w.acts as_value) refl flow
    (λ c' f' v' text s' q.
    let more = q.since in
    record {
      to = λ early.
          subst (λ u. Comes code c' f' v' owed (put_in k x line (BasicText text) w.acts u)) (sym q.state)
          (onward closed q.reach
          (λ g' at'.
          stored_goes k labels x varying size h.text h.begun line left' acts wanted debt
          (index + size_with words k stmt) y.wanted text q.short q.among (omega (arith, more))
          (omega (arith, n3)) (omega (arith, n0, n1, n3)) ls at'));
    })
    (λ c' f' v' height label s' q.
    λ i0 f0 v0 from. jumps_repaid debt from (jumps_since (omega arith) q))
    (λ c' f' v' r s' q. absurd q)
    (ev p' numbers 0 0 (index + size_of one) g o' refl (let room = h.registers in omega (arith, room), h.held) lv
    (omega (arith, all, n0, n1)) at))))))
