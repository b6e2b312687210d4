-- RETURN with a number that fits or with a bit: its word goes into the function's frame, and the block comes to its
-- end.
use Rattle.std.proofs.Common.{◌≡◌, ℕ, ◌+◌, ◌^◌, ◌<◌, ◌≤◌, List, [], ◌∷◌, ◌++◌, length, Some, true, refl}
use Rattle.std.proofs.Common.{sym, ap, ◌∙◌, subst, arith}
use Rattle.std.proofs.lemmas.Bool.{eq-eqb}
use Rattle.std.specs.Prelude.{ℤ, cond, pos}
use Rattle.rv_meaning.specs.Machine.{memory_size, value}
use Rattle.rv_meaning.specs.Memory.{load, store}
use Rattle.rv_meaning.proofs.MemoryLaws.{load-store_same}
use Rattle.pli_typing.specs.TypedTree as Y
use Rattle.pli_meaning.specs.BasicValues.{BasicNumber, BasicText, BasicValue}
use Rattle.pli_meaning.specs.Contents.{kept}
use Rattle.pli_meaning.specs.Control.{Label, Meaning, act, give, returns, ◌>>=◌, ◌>>◌}
use Rattle.pli_meaning.specs.DeclaredShapes.{kind_of}
use Rattle.pli_meaning.specs.Evaluating as V
use Rattle.pli_meaning.specs.Executing as M
use Rattle.pli_meaning.specs.Numbers.{checked, is_of_precision}
use Rattle.pli_meaning.specs.Raising as R
use Rattle.pli_meaning.specs.Raising.{at_line}
use Rattle.pli_meaning.specs.StorageState.{State}
use Rattle.pli_meaning.specs.World.{counted}
use Rattle.pli_serving.specs.Bytes.{number_bytes}
use Rattle.pli_serving.specs.ServiceState.{Services}
use Rattle.pli_coding.specs.Allocating.{act_code}
use Rattle.pli_coding.specs.Assembly.{JumpTo, ReturnPlace, size_of}
use Rattle.pli_coding.specs.Frames.{result}
use Rattle.pli_coding.specs.Instructions.{load_word, store_word}
use Rattle.pli_coding.specs.Frames.{display}
use Rattle.pli_coding.specs.Registers.{a0, frame_register, u3}
use Rattle.pli_coding.specs.Statements.{owner_found, result_address, returned_by, unwound_to, word_returned}
use Rattle.area_keeper.specs.KeptAreas.{with_part}
use Rattle.storage_relation.specs.Changes.{with_memory}
use Rattle.storage_relation.specs.Served.{Holds}
use Rattle.storage_relation.proofs.Changes.{apart_holds}
use Rattle.storage_relation.proofs.Values.{number_length, store_is}
use Rattle.activation_relation.specs.Frames.{AreLaid, FramesStand, frame_bytes, frame_start, frame_under, upper_top}
use Rattle.activation_relation.specs.Owned.{AreOwned}
use Rattle.activation_relation.specs.Layers.{Point, now, services_of}
use Rattle.activation_relation.proofs.FrameWords.{levels_covered}
use Rattle.activation_relation.proofs.OwnPlaces.{clear_within, frame_clear}
use Rattle.activation_relation.proofs.WaitingWords.{result_stored}
use Rattle.run_steps.specs.Bodies.{Ground}
use Rattle.run_steps.proofs.Bodies.{store_piece}
use Rattle.run_steps.specs.Engine.{Base}
use Rattle.run_steps.specs.Items.{Linked}
use Rattle.run_steps.proofs.Jumps.{back_of, front_of, jump_piece, linked_at}
use Rattle.run_steps.proofs.Linking.{size_append}
use Rattle.run_steps.proofs.Numbers.{word_small}
use Rattle.run_steps.specs.Owing.{Between, owing}
use Rattle.run_steps.proofs.Owing.{comes_owing, owing_closed, repaid}
use Rattle.run_steps.specs.Reach.{Comes, Family, Reach, before, reached}
use Rattle.run_steps.proofs.Reach.{before_closed, comes_on, reach_map, reach_then, reached_holds}
use Rattle.run_steps.specs.Temporaries.{nothing}
use Rattle.block_runs.specs.Bodies.{AtEnd, IsResult, place_in}
use Rattle.block_runs.specs.Endings.{HasGiven}
use Rattle.block_runs.specs.Machines.{IsIn, acted}
use Rattle.block_runs.proofs.CallStatements.{comes_map}
use Rattle.block_runs.proofs.Places.{bounds, ground_at, word_in as place_of_word}
use Rattle.block_runs.proofs.PointActs.{act_comes}
use Rattle.block_runs.proofs.PointGrounds.{StandsIn, in_known, point_frame}
use Rattle.program_runs.specs.Statements.{Block, DoesWith, IsAmong, IsBegun, set_aside, size_with}
use Rattle.program_runs.specs.Statements.{statement_aims}
use Rattle.program_runs.proofs.JumpsOut.{jumps_repaid, jumps_since, own_end}
use Rattle.program_runs.proofs.NewestBlocks.{newest_at}
use Rattle.program_runs.proofs.Statements.{acted_among, resumes_among}
use Rattle.activation_relation.proofs.Remaining.{remains_then}
use Rattle.expression_runs.specs.Assignments.{setting_around}
use Rattle.expression_runs.specs.Values.{HasWord, Stretch, behind}
use Rattle.expression_runs.proofs.Words.{frame_of, known_word}
use Rattle.pli_typing.specs.Signatures.{Bit, Fixed, LeafKind}
use Rattle.rv_meaning.specs.Words.{flag}
use Rattle.pli_meaning.specs.BasicValues.{BasicBit}
use Rattle.pli_meaning.specs.Control.{flow_on}
use Rattle.pli_meaning.specs.Raising.{Around}
use Rattle.pli_coding.specs.Expressions.{stored_code}
use Rattle.block_runs.specs.Bodies.{IsOfKind}
use Rattle.pli_headline.proofs.Scalars.{fewer_bits}
use Rattle.scalar_runs.specs.Fitted.{Fits, fitted, fitted_aims}
use Rattle.test_runs.specs.Tests.{Tests, bit_aims}
use Rattle.pli_meaning.specs.Control.{Ended, Flow, Jump, Normal, Paused, Return, Stuck}
use Rattle.pli_coding.specs.Statements.{value_returned}
use Rattle.std.specs.Prelude.{Bool, false}
use Rattle.expression_runs.specs.Values.{Setting, in_registers}
use Rattle.test_runs.proofs.Operands.{Leaves, value_aims}
use Rattle.scalar_runs.proofs.ScalarWords.{word_in}
use Rattle.result_runs.specs.Results.{IsReturnOf, bit_return, fitted_return}

-- ---- its code

-- in the function's own block
own_return :
    (kind : LeafKind) (words : ℕ) (k : Block) (stmt : Y.Stmt) (line index left' need most : ℕ) →
    IsReturnOf kind words k stmt line index left' need most → word_returned k.environment
    ≡ store_word frame_register a0 (pos result) ++ (JumpTo (ReturnPlace k.call.beginning.head.number) ∷ [])
own_return kind words k stmt line index left' need most h =
    let e = k.environment in
    let n = k.call.beginning.head.number in
    ap (λ o. owner_found e o ++ (store_word (result_address e o).register a0 (pos result) ++ returned_by e 0 o)) h.owner
    ∙ ap (λ q. cond q [] (load_word u3 frame_register (display e.level))
    ++ (store_word (cond q frame_register u3) a0 (pos result)
    ++ (cond q [] (unwound_to e.level 0) ++ JumpTo (ReturnPlace n) ∷ []))) (eq-eqb e.level e.level refl)

-- ---- the word in the frame

-- memory has all that stands at a point, and a word where the frame has its function's result
abbrev result_ground : (k : Block) (p : Point) (h : frame_of k p) → (given : ℕ) → Ground
result_ground k p h given =
    ground_at (frame_under k.call.surroundings.parts p.control.layers)
    (upper_top k.call.surroundings.parts p.control.layers) h
    (λ b m. StandsIn k.call.surroundings p b m
    × (load 4 m (frame_under k.call.surroundings.parts p.control.layers + result) ≡ given))

-- what the store leaves
stands_returned :
    {k : Block} {numbers : ℕ → ℕ} {p : Point} (b : Base) (m : List ℕ) (given : ℕ) → IsBegun k → IsAmong k numbers p →
    length m ≡ memory_size → StandsIn k.call.surroundings p b m →
    StandsIn k.call.surroundings p b
    (store 4 m (frame_under k.call.surroundings.parts p.control.layers + result) given)
stands_returned {k} {p = p} b m given begun o bytes stands =
    let n = newest_at begun o in
    let w = k.call.surroundings in
    let φ = n.layer in
    let φs = k.call.point.control.layers in
    let a = n.activation in
    let as' = k.call.point.state.activations in
    let laid = subst (AreLaid w.parts) n.layers o.stands.laid in
    let owned = subst (λ ls. AreOwned p.keeper p.places p.state w.parts ls) n.layers o.stands.owned in
    let at = φ.at + result in
    let here : frame_under w.parts p.control.layers + result ≡ at =
    ap (λ ls. frame_under w.parts ls + result) n.layers in
    let high = (bounds w.parts (φ ∷ φs) laid).high in
    let inside = o.image.parts.inside in
    let fixed = laid.0.fixed in
    let free = laid.0.free in
    let above = laid.0.above in
    let covered = levels_covered φ.level φ.parameters in
    let frames = subst (λ xs. FramesStand w.parts b.at m xs (φ ∷ φs)) n.active
    (subst (λ ls. FramesStand w.parts b.at m p.state.activations ls) n.layers stands.frames) in
    let new = store 4 m at given in
    let length' = number_length 4 given in
    let room : at + 4 ≤ length m = omega (arith, fixed, free, high, inside, bytes, covered) in
    let written = with_part (number_bytes 4 given) at m in
    subst (λ j. StandsIn w p b (store 4 m j given)) (sym here)
    (record {
      storage = subst (λ m'. Holds (now p m')) (store_is 4 given at m room)
          (same_now (apart_holds (now p m) stands.storage at (number_bytes 4 given)
          (clear_within p.keeper p.places p.state (frame_start φ) (frame_bytes φ) at (length (number_bytes 4 given))
          (frame_clear p.keeper p.places p.state w.parts φ φs owned laid) (omega (arith, above))
          (omega (arith, length', above, covered)))
          (omega (arith, room, length'))));
      frames =
          subst (λ ls. FramesStand w.parts b.at new p.state.activations ls) (sym n.layers)
          (subst (λ xs. FramesStand w.parts b.at new xs (φ ∷ φs)) (sym n.active)
          (result_stored w.parts b.at given m a as' φ φs frames (laid, omega (arith, high, inside, bytes))));
    })
  where
    same_now : {m' : List ℕ} → Holds (with_memory m' (now p m)) → Holds (now p m')
    same_now h =
        record {
          keeps = h.keeps;
          heap = record { at = h.heap.at; capacity = h.heap.capacity };
          lives = record { falling = h.lives.falling; numbered = h.lives.numbered; extents = h.lives.extents };
          stored = h.stored;
          distinct = h.distinct;
        }

-- ---- to the end of the block

-- a word in a0 goes into the frame, and the jump to the end
end_reaches :
    (kind : LeafKind) (words : ℕ) (k : Block) (stmt : Y.Stmt) (line i left' need most : ℕ)
    (h : IsReturnOf kind words k stmt line i left' need most)
    {numbers : ℕ → ℕ} {p : Point} (index c : ℕ) (f : Family) (given : ℕ) → given < 2 ^ 32 → (o : IsAmong k numbers p) →
    Linked k.call.surroundings.links k.call.code index
    (store_word frame_register a0 (pos result) ++ (JumpTo (ReturnPlace k.call.beginning.head.number) ∷ [])) →
    ((b : Base) → IsIn k.call.surroundings p numbers index b (f b) × (value (f b).machine a0 ≡ given)) →
    Reach k.call.code c f (services_of p) (c + size_of (store_word frame_register a0 (pos result)) + 2) (services_of p)
    (λ b y. IsIn k.call.surroundings p numbers k.call.end b y
    × (load 4 y.machine.memory (frame_under k.call.surroundings.parts p.control.layers + result) ≡ given))
end_reaches kind words k stmt line i left' need most h {numbers} {p} index c f given small' o l there =
    let w = k.call.surroundings in
    let frame = point_frame o.stands o.image in
    let g' = result_ground k p frame given in
    let put' = store_word frame_register a0 (pos result) in
    let jump = JumpTo (ReturnPlace k.call.beginning.head.number) ∷ [] in
    let at = frame_under w.parts p.control.layers in
    let high = frame.room in
    let r1 = store_piece g' {h = numbers} {t = λ j. 0} (λ j. 0) c f a0 (pos result) (at + result) (λ b. given)
    (place_of_word at result frame (omega arith) (omega arith)) (λ y u. refl) (λ b y q. q.regs.0) (λ b. refl)
    (λ b m bytes stands. (
      stands_returned b m given h.begun o bytes stands,
      load-store_same 4 m (at + result) given small' (omega (arith, high, bytes)),
    ))
    (record { reserved_stay = λ y u. refl; known_stay = λ b y u q. (q.0, tt); set = λ y u. refl })
    (front_of put' jump l) (λ b. known_word k frame (there b)) in
    let r2 = jump_piece (c + size_of put') (c + size_of put' + 2) (reached r1)
    (ReturnPlace k.call.beginning.head.number) k.call.end (omega arith) h.end h.near
    (record { reserved_stay = λ y u. refl; known_stay = λ b y u q. (q.0, tt); set = λ y u. refl })
    (back_of put' jump l) (reached_holds r1) in
    reach_map _ (reach_then r1 r2) (λ b y q. (
      in_known {t = λ j. 0} {rs = nothing} frame o.image.parts
          (record {
            pc = q.pc;
            holds = record {
              body = record {
                services = q.holds.body.services;
                registers = q.holds.body.registers;
                bytes = q.holds.body.bytes;
                memory = q.holds.body.memory.0;
              };
              regs = tt;
            };
          }),
      q.holds.body.memory.1,
    ))

-- the block has come to its end
at_result :
    (kind : LeafKind) (words : ℕ) (k : Block) (stmt : Y.Stmt) (line i left' need most : ℕ)
    (h : IsReturnOf kind words k stmt line i left' need most)
    (debt c' : ℕ) (f' : Family) (v' : Services) (value' : BasicValue) (given : ℕ) (s : State) (y : Stretch) →
    given < 2 ^ 32 → IsOfKind kind (Some value') given → HasWord k y given c' f' v' s → y.wanted + size_of (store_word
    frame_register a0 (pos result)) ≤ debt →
    Linked k.call.surroundings.links k.call.code y.index
    (store_word frame_register a0 (pos result) ++ (JumpTo (ReturnPlace k.call.beginning.head.number) ∷ [])) →
    (i0 : ℕ) (f0 : Family) (v0 : Services) → Between k.call.code (i0 + debt) f0 v0 c' f' v' →
    AtEnd k.call left' i0 f0 v0 (Some value') s
at_result kind words k stmt line i left' need most h debt c' f' v' value' given s y small' fits q paid l i0 f0 v0 from =
    let p = q.point in
    let w = k.call.surroundings in
    let enough = h.enough in
    let n = newest_at h.begun q.among in
    let b = h.begun in
    let there = end_reaches kind words k stmt line i left' need most h y.index y.wanted (reached q.reach) given
    small' q.among l (reached_holds q.reach) in
    let here : frame_under w.parts p.control.layers ≡ k.call.beginning.layer.at =
    ap (λ ls. frame_under w.parts ls) (q.among.later.layers ∙ b.resumes.layers) in
    record {
      point = p;
      after = q.numbers;
      activation = b.activation;
      resumes = resumes_among b q.among;
      image = q.among.image;
      remains = remains_then k.call.point k.first p b.remains q.among.later.remains;
      few = q.among.few;
      others = λ n more. let few = h.saved in q.among.others n (omega (arith, few, more));
      state = q.state;
      given = given;
      result = subst (λ o. IsResult o (Some value') given) (sym h.function) fits;
      reach = reach_map _ (repaid debt left' (omega (arith, paid, enough)) (reach_then q.reach there) from)
          (λ b' m is. (
            is.0,
            subst (λ o. HasGiven k.call.beginning.layer (place_in o) given m) (sym h.function)
                (ap (λ at. load 4 m.machine.memory (at + result)) (sym here) ∙ is.1),
          ));
    }

-- ---- the statement

abbrev returned_as : Y.LeafType → BasicValue → Meaning (Unit {0})
returned_as type v = returns (Some (kept (kind_of [] type) (BasicText []) v))

-- a value that is left by code, in a0 as a word, is of a kind as it is kept
record IsKept (kind : LeafKind) (type : Y.LeafType) (v : BasicValue) : Type 0 where
  kept_is : kept (kind_of [] type) (BasicText []) v ≡ v
  few : word_in v < 2 ^ 32
  fits : IsOfKind kind (Some v) (word_in v)

return_by :
    (kind : LeafKind) (words : ℕ) (k : Block) (labels : List Label) (type : Y.LeafType) (source : Y.Stored)
    (line index left' need most : ℕ) →
    value_returned k.environment (set_aside words) type ≡ word_returned k.environment →
    IsReturnOf kind words k (Y.ReturnValue type source line) line index left' need most →
    (fits : BasicValue → Type 0) → ((v : BasicValue) → fits v → IsKept kind type v) →
    Leaves word_in fits (setting_around words k labels line most) need (λ t. stored_code k.environment t source)
    (V.stored_value (at_line k.around line) source) →
    DoesWith words k labels (Y.ReturnValue type source line) index left'
unfolding M.statement ◌>>=◌ ◌>>◌ returns
return_by kind words k labels type source line index left' need most by_word h fits keeps ev p numbers c wanted f o paid
    there =
    let w = k.call.surroundings in
    let code = k.call.code in
    let e = k.environment in
    let stmt = Y.ReturnValue type source line in
    let around' = at_line k.around line in
    let one = act_code line in
    let value' = stored_code e (set_aside words) source in
    let last = value_returned e (set_aside words) type in
    let put' = store_word frame_register a0 (pos result) in
    let jump = JumpTo (ReturnPlace k.call.beginning.head.number) ∷ [] in
    let coded = by_word ∙ own_return kind words k stmt line index left' need most h in
    let n0 = size_append one (value' ++ last) in
    let n1 = size_append value' last in
    let n3 = ap (λ u. size_of u) coded in
    let n4 = size_append put' jump in
    let l = h.statement in
    let l1 = back_of one (value' ++ last) l in
    let ls = subst (Linked w.links code (index + size_of one + size_of value')) coded (back_of value' last l1) in
    let debt = size_of value' + size_of put' in
    let acts = p.state.world.acts in
    let aims = statement_aims k labels acts (index + size_with words k stmt) wanted left' in
    let owed = owing code debt aims in
    let closed = owing_closed code debt aims in
    let meant = V.stored_value around' source in
    let out = returned_as type in
    let next' : Unit {0} → Meaning (Unit {0}) = λ u. meant >>= out in
    let all = h.paid in
    comes_owing debt (M.statement k.around stmt w.acts p.state)
    (comes_on w.acts (act counted w.acts p.state) next'
    (act_comes (before_closed w.acts next' closed) line (c + debt) 0 f (o.stands, o.image)
    (h.act.line_fits, h.act.acts, omega (arith, paid, n0, n1, n3, n4)) (front_of one (value' ++ last) l) there
    (λ g less at.
    let p' = acted line p in
    let o' = acted_among line o less in
    let y = behind p' numbers 0 0 (index + size_of one) value' in
    comes_on w.acts (meant w.acts p'.state) out
    (comes_map (value_aims word_in fits k labels y) (before code owed w.acts out) refl (meant w.acts p'.state)
    (λ c' f' v' v s q.
    let kept' = keeps v q.0 in
    subst (λ u. Comes code c' f' v' owed (returns (Some u) w.acts s)) (sym kept'.kept_is)
    (record {
      to = λ early i0 f0 v0 from. own_end h.begin
          (at_result kind words k stmt line index left' need most h debt c' f' v' v (word_in v) s y kept'.few kept'.fits
          q.1 (omega arith)
          (linked_at (index + size_of one + size_of value') (put' ++ jump) (omega arith) ls) i0 f0 v0 from);
    }))
    (λ c' f' v' height label s q.
    λ i0 f0 v0 from. jumps_repaid debt from (jumps_since (omega arith) q))
    (λ c' f' v' r s q. absurd q)
    (ev p' numbers 0 0 (index + size_of one) g o' refl (let room = h.registers in omega (arith, room), h.held)
    (front_of value' last l1) (omega (arith, all, n0, n1)) at)))))

-- ---- numbers

abbrev IsNumberOf : (precision : ℕ) → BasicValue → Type 0
IsNumberOf precision v = (z : ℤ) × (v ≡ BasicNumber z) × (is_of_precision precision z ≡ true)

-- its test belongs to the value
then_given :
    (flow : Flow ℤ) (next' : ℤ → Meaning ℤ) (k : ℕ) →
    flow_on k (flow_on k flow next') (λ z. give (BasicNumber z))
    ≡ flow_on k flow (λ z. (next' z) >>= (λ z'. give (BasicNumber z')))
unfolding ◌>>=◌
then_given (Normal z s) next' k = refl
then_given (Jump height label s) next' k = refl
then_given (Return v s) next' k = refl
then_given (Ended s) next' k = refl
then_given (Paused s) next' k = refl
then_given Stuck next' k = refl

number_leaves :
    (k : Setting) (need precision : ℕ) (x : Y.Number) → Fits k need precision x →
    Leaves word_in (IsNumberOf precision) k need
    (λ t. stored_code k.block.environment t (Y.StoredNumber precision x))
    (V.stored_value k.around (Y.StoredNumber precision x))
unfolding V.stored_value ◌>>=◌ give
number_leaves k need precision x does p numbers taken c index f o line registers l paid there =
    let w = k.block.call.surroundings in
    let code = k.block.call.code in
    let t = in_registers k.words taken in
    let y = behind p numbers taken c index (stored_code k.block.environment t (Y.StoredNumber precision x)) in
    let goal = value_aims word_in (IsNumberOf precision) k.block k.labels y in
    let flow = fitted k.around precision x w.acts p.state in
    let last : ℤ → Meaning BasicValue = λ z. give (BasicNumber z) in
    subst (λ u. Comes code c f (services_of p) goal u)
    (then_given (V.number k.around x w.acts p.state) (λ z. R.value_of k.around (checked precision z)) w.acts)
    (comes_on w.acts flow last
    (comes_map (fitted_aims k.block k.labels precision y) (before code goal w.acts last) refl flow
    (λ c' f' v' z s q. record { to = λ early. ((z, refl, q.0), q.1) })
    (λ c' f' v' height label s q. q)
    (λ c' f' v' u s q. absurd q)
    (does p numbers taken c index f o line registers l paid there)))

number_kept :
    (precision most_bits : ℕ) → precision ≤ most_bits → most_bits ≤ 31 → (v : BasicValue) → IsNumberOf precision v →
    IsKept (Fixed most_bits) (Y.FixedLeaf precision) v
number_kept precision most_bits few bits v is =
    subst (λ u. IsKept (Fixed most_bits) (Y.FixedLeaf precision) u) (sym is.1)
    (record {
      kept_is = refl;
      few = word_small is.0 (fewer_bits precision 31 is.0 (omega (arith, few, bits)) is.2);
      fits = (refl, fewer_bits precision most_bits is.0 few is.2);
    })

pub number_returned :
    (words : ℕ) (k : Block) (labels : List Label) (precision most_bits : ℕ) (source : Y.Number)
    (line index left' need most : ℕ) → precision ≤ most_bits → most_bits ≤ 31 →
    IsReturnOf (Fixed most_bits) words k (fitted_return precision source line) line index left' need most →
    Fits (setting_around words k labels line most) need precision source →
    DoesWith words k labels (fitted_return precision source line) index left'
number_returned words k labels precision most_bits source line index left' need most few bits h does =
    return_by (Fixed most_bits) words k labels (Y.FixedLeaf precision) (Y.StoredNumber precision source) line index
    left'
    need most refl h (IsNumberOf precision) (number_kept precision most_bits few bits)
    (number_leaves (setting_around words k labels line most) need precision source does)

-- ---- bits

abbrev IsBitValue : BasicValue → Type 0
IsBitValue v = (b : Bool) × (v ≡ BasicBit b)

bit_leaves :
    (k : Setting) (need : ℕ) (x : Y.Bit) → Tests k need x →
    Leaves word_in IsBitValue k need (λ t. stored_code k.block.environment t (Y.StoredBit x))
    (V.stored_value k.around (Y.StoredBit x))
unfolding V.stored_value ◌>>=◌ give
bit_leaves k need x does p numbers taken c index f o line registers l paid there =
    let w = k.block.call.surroundings in
    let code = k.block.call.code in
    let t = in_registers k.words taken in
    let y = behind p numbers taken c index (stored_code k.block.environment t (Y.StoredBit x)) in
    let goal = value_aims word_in IsBitValue k.block k.labels y in
    let flow = V.bit k.around x w.acts p.state in
    let last : Bool → Meaning BasicValue = λ b. give (BasicBit b) in
    comes_on w.acts flow last
    (comes_map (bit_aims k.block k.labels y) (before code goal w.acts last) refl flow
    (λ c' f' v' b s q. record { to = λ early. ((b, refl), q) })
    (λ c' f' v' height label s q. q)
    (λ c' f' v' u s q. absurd q)
    (does p numbers taken c index f o line registers l paid there))

flag_small : (b : Bool) → flag b < 2 ^ 32
flag_small true = omega arith
flag_small false = omega arith

bit_kept : (v : BasicValue) → IsBitValue v → IsKept Bit Y.BitLeaf v
bit_kept v is =
    subst (λ u. IsKept Bit Y.BitLeaf u) (sym is.1)
    (record { kept_is = refl; few = flag_small is.0; fits = refl })

pub bit_returned :
    (words : ℕ) (k : Block) (labels : List Label) (source : Y.Bit) (line index left' need most : ℕ) →
    IsReturnOf Bit words k (bit_return source line) line index left' need most →
    Tests (setting_around words k labels line most) need source →
    DoesWith words k labels (bit_return source line) index left'
bit_returned words k labels source line index left' need most h does =
    return_by Bit words k labels Y.BitLeaf (Y.StoredBit source) line index left' need most refl h IsBitValue bit_kept
    (bit_leaves (setting_around words k labels line most) need source does)
