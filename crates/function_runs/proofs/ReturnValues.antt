-- RETURN with a number: its word goes into the function's frame, and the block comes to its end.
use Rattle.std.proofs.Common.{◌≡◌, ℕ, ◌+◌, ◌*◌, ◌^◌, ◌<◌, ◌≤◌, List, [], ◌∷◌, ◌++◌, length, Option, Some, true, refl}
use Rattle.std.proofs.Common.{sym, ap, ◌∙◌, subst, arith}
use Rattle.std.proofs.lemmas.Bool.{eq-eqb}
use Rattle.std.specs.Prelude.{ℤ, cond, pos}
use Rattle.rv_meaning.specs.Machine.{memory_size, value}
use Rattle.rv_meaning.specs.Memory.{load, store}
use Rattle.rv_meaning.specs.Words.{word}
use Rattle.rv_meaning.proofs.MemoryLaws.{load-store_same}
use Rattle.pli_typing.specs.TypedTree as Y
use Rattle.pli_meaning.specs.BasicValues.{BasicNumber, BasicText, BasicValue}
use Rattle.pli_meaning.specs.Contents.{kept}
use Rattle.pli_meaning.specs.Control.{Label, Meaning, act, give, returns, ◌>>=◌, ◌>>◌}
use Rattle.pli_meaning.specs.DeclaredShapes.{kind_of}
use Rattle.pli_meaning.specs.Evaluating as V
use Rattle.pli_meaning.specs.Executing as M
use Rattle.pli_meaning.specs.Numbers.{checked, is_of_precision}
use Rattle.pli_meaning.specs.Raising as R
use Rattle.pli_meaning.specs.Raising.{at_line}
use Rattle.pli_meaning.specs.StorageState.{State}
use Rattle.pli_meaning.specs.World.{counted}
use Rattle.pli_serving.specs.Bytes.{number_bytes}
use Rattle.pli_serving.specs.ServiceState.{Services}
use Rattle.pli_coding.specs.Allocating.{act_code}
use Rattle.pli_coding.specs.Assembly.{Code, JumpTo, ReturnPlace, size_of}
use Rattle.pli_coding.specs.Environments.{Owner}
use Rattle.pli_coding.specs.Expressions.{number_code}
use Rattle.pli_coding.specs.Frames.{result}
use Rattle.pli_coding.specs.Instructions.{load_word, store_word}
use Rattle.pli_coding.specs.Frames.{display}
use Rattle.pli_coding.specs.Registers.{a0, frame_register, u3}
use Rattle.pli_coding.specs.Statements.{owner_found, result_address, returned_by, stmt_code, unwound_to, word_returned}
use Rattle.area_keeper.specs.KeptAreas.{with_part}
use Rattle.storage_relation.specs.Changes.{with_memory}
use Rattle.storage_relation.specs.Served.{Holds}
use Rattle.storage_relation.proofs.Changes.{apart_holds}
use Rattle.storage_relation.proofs.Values.{number_length, store_is}
use Rattle.activation_relation.specs.Frames.{AreLaid, FramesStand, frame_bytes, frame_start, frame_under, upper_top}
use Rattle.activation_relation.specs.Owned.{AreOwned}
use Rattle.activation_relation.specs.Layers.{Point, now, services_of}
use Rattle.activation_relation.specs.Points.{Stands, Surroundings}
use Rattle.activation_relation.proofs.FrameWords.{levels_covered}
use Rattle.activation_relation.proofs.OwnPlaces.{clear_within, frame_clear}
use Rattle.activation_relation.proofs.WaitingWords.{result_stored}
use Rattle.run_steps.specs.Bodies.{Ground, Known}
use Rattle.run_steps.proofs.Bodies.{store_piece}
use Rattle.run_steps.specs.Engine.{Base}
use Rattle.run_steps.specs.Items.{At, Linked}
use Rattle.run_steps.proofs.Jumps.{back_of, front_of, jump_piece, linked_at}
use Rattle.run_steps.proofs.Linking.{size_append}
use Rattle.run_steps.proofs.Numbers.{word_small}
use Rattle.run_steps.specs.Owing.{Between, owing}
use Rattle.run_steps.proofs.Owing.{comes_owing, owing_closed, repaid}
use Rattle.run_steps.specs.Reach.{Comes, Family, Reach, before, reached}
use Rattle.run_steps.proofs.Reach.{before_closed, comes_on, onward, reach_map, reach_then, reached_holds}
use Rattle.run_steps.specs.Temporaries.{nothing}
use Rattle.block_runs.specs.Bodies.{AtEnd, IsResult, place_in}
use Rattle.block_runs.specs.Endings.{HasGiven}
use Rattle.block_runs.specs.Machines.{IsIn, acted}
use Rattle.block_runs.proofs.CallStatements.{comes_map}
use Rattle.block_runs.proofs.Places.{bounds, ground_at, word_in}
use Rattle.block_runs.proofs.PointActs.{act_comes}
use Rattle.block_runs.proofs.PointGrounds.{StandsIn, in_known, point_frame, point_ground}
use Rattle.program_runs.specs.Statements.{Block, Does, DoesWith, IsAmong, IsBegun, set_aside, size_with}
use Rattle.program_runs.specs.Statements.{statement_aims}
use Rattle.program_runs.proofs.JumpsOut.{end_later, jumps_repaid, jumps_since, own_end}
use Rattle.program_runs.proofs.NewestBlocks.{Newest, newest_at}
use Rattle.program_runs.proofs.Statements.{acted_among, resumes_among}
use Rattle.activation_relation.proofs.Remaining.{remains_then}
use Rattle.expression_runs.specs.Assignments.{setting_around, setting_of}
use Rattle.expression_runs.specs.Laws as L
use Rattle.expression_runs.specs.Values.{HasWord, Stretch, behind, number_aims}
use Rattle.expression_runs.proofs.Assignments.{fit_is}
use Rattle.expression_runs.proofs.Words.{frame_of, known_word}
use Rattle.function_runs.specs.Returns.{IsReturn, IsReturnWith, return_of}

-- ---- its code

-- in the function's own block
own_return :
    (words : ℕ) (k : Block) (source : Y.Number) (line index left' need most : ℕ) →
    IsReturnWith words k source line index left' need most → word_returned k.environment
    ≡ store_word frame_register a0 (pos result) ++ (JumpTo (ReturnPlace k.call.beginning.head.number) ∷ [])
own_return words k source line index left' need most h =
    let e = k.environment in
    let n = k.call.beginning.head.number in
    ap (λ o. owner_found e o ++ (store_word (result_address e o).register a0 (pos result) ++ returned_by e 0 o)) h.owner
    ∙ ap (λ q. cond q [] (load_word u3 frame_register (display e.level))
    ++ (store_word (cond q frame_register u3) a0 (pos result)
    ++ (cond q [] (unwound_to e.level 0) ++ JumpTo (ReturnPlace n) ∷ []))) (eq-eqb e.level e.level refl)

-- ---- the word in the frame

-- memory has all that stands at a point, and a word where the frame has its function's result
abbrev result_ground : (k : Block) (p : Point) (h : frame_of k p) → (given : ℕ) → Ground
result_ground k p h given =
    ground_at (frame_under k.call.surroundings.parts p.control.layers)
    (upper_top k.call.surroundings.parts p.control.layers) h
    (λ b m. StandsIn k.call.surroundings p b m
    × (load 4 m (frame_under k.call.surroundings.parts p.control.layers + result) ≡ given))

-- what the store leaves
stands_returned :
    {k : Block} {numbers : ℕ → ℕ} {p : Point} (b : Base) (m : List ℕ) (given : ℕ) → IsBegun k → IsAmong k numbers p →
    length m ≡ memory_size → StandsIn k.call.surroundings p b m →
    StandsIn k.call.surroundings p b
    (store 4 m (frame_under k.call.surroundings.parts p.control.layers + result) given)
stands_returned {k} {p = p} b m given begun o bytes stands =
    let n = newest_at begun o in
    let w = k.call.surroundings in
    let φ = n.layer in
    let φs = k.call.point.control.layers in
    let a = n.activation in
    let as' = k.call.point.state.activations in
    let laid = subst (AreLaid w.parts) n.layers o.stands.laid in
    let owned = subst (λ ls. AreOwned p.keeper p.places p.state w.parts ls) n.layers o.stands.owned in
    let at = φ.at + result in
    let here : frame_under w.parts p.control.layers + result ≡ at =
    ap (λ ls. frame_under w.parts ls + result) n.layers in
    let high = (bounds w.parts (φ ∷ φs) laid).high in
    let inside = o.image.parts.inside in
    let fixed = laid.0.fixed in
    let free = laid.0.free in
    let above = laid.0.above in
    let covered = levels_covered φ.level φ.parameters in
    let frames = subst (λ xs. FramesStand w.parts b.at m xs (φ ∷ φs)) n.active
    (subst (λ ls. FramesStand w.parts b.at m p.state.activations ls) n.layers stands.frames) in
    let new = store 4 m at given in
    let length' = number_length 4 given in
    let room : at + 4 ≤ length m = omega (arith, fixed, free, high, inside, bytes, covered) in
    let written = with_part (number_bytes 4 given) at m in
    subst (λ j. StandsIn w p b (store 4 m j given)) (sym here)
    (record {
      storage = subst (λ m'. Holds (now p m')) (store_is 4 given at m room)
          (same_now (apart_holds (now p m) stands.storage at (number_bytes 4 given)
          (clear_within p.keeper p.places p.state (frame_start φ) (frame_bytes φ) at (length (number_bytes 4 given))
          (frame_clear p.keeper p.places p.state w.parts φ φs owned laid) (omega (arith, above))
          (omega (arith, length', above, covered)))
          (omega (arith, room, length'))));
      frames =
          subst (λ ls. FramesStand w.parts b.at new p.state.activations ls) (sym n.layers)
          (subst (λ xs. FramesStand w.parts b.at new xs (φ ∷ φs)) (sym n.active)
          (result_stored w.parts b.at given m a as' φ φs frames (laid, omega (arith, high, inside, bytes))));
    })
  where
    same_now : {m' : List ℕ} → Holds (with_memory m' (now p m)) → Holds (now p m')
    same_now h =
        record {
          keeps = h.keeps;
          heap = record { at = h.heap.at; capacity = h.heap.capacity };
          lives = record { falling = h.lives.falling; numbered = h.lives.numbered; extents = h.lives.extents };
          stored = h.stored;
          distinct = h.distinct;
        }

-- ---- to the end of the block

-- a word in a0 goes into the frame, and the jump to the end
end_reaches :
    (words : ℕ) (k : Block) (source : Y.Number) (line i left' need most : ℕ) (h : IsReturnWith words k source line i
    left' need most)
    {numbers : ℕ → ℕ} {p : Point} (index c : ℕ) (f : Family) (given : ℕ) → given < 2 ^ 32 → (o : IsAmong k numbers p) →
    Linked k.call.surroundings.links k.call.code index
    (store_word frame_register a0 (pos result) ++ (JumpTo (ReturnPlace k.call.beginning.head.number) ∷ [])) →
    ((b : Base) → IsIn k.call.surroundings p numbers index b (f b) × (value (f b).machine a0 ≡ given)) →
    Reach k.call.code c f (services_of p) (c + size_of (store_word frame_register a0 (pos result)) + 2) (services_of p)
    (λ b y. IsIn k.call.surroundings p numbers k.call.end b y
    × (load 4 y.machine.memory (frame_under k.call.surroundings.parts p.control.layers + result) ≡ given))
end_reaches words k source line i left' need most h {numbers} {p} index c f given small' o l there =
    let w = k.call.surroundings in
    let frame = point_frame o.stands o.image in
    let g' = result_ground k p frame given in
    let put' = store_word frame_register a0 (pos result) in
    let jump = JumpTo (ReturnPlace k.call.beginning.head.number) ∷ [] in
    let at = frame_under w.parts p.control.layers in
    let high = frame.room in
    let r1 = store_piece g' {h = numbers} {t = λ j. 0} (λ j. 0) c f a0 (pos result) (at + result) (λ b. given)
    (word_in at result frame (omega arith) (omega arith)) (λ y u. refl) (λ b y q. q.regs.0) (λ b. refl)
    (λ b m bytes stands. (
      stands_returned b m given h.begun o bytes stands,
      load-store_same 4 m (at + result) given small' (omega (arith, high, bytes)),
    ))
    (record { reserved_stay = λ y u. refl; known_stay = λ b y u q. (q.0, tt); set = λ y u. refl })
    (front_of put' jump l) (λ b. known_word k frame (there b)) in
    let r2 = jump_piece (c + size_of put') (c + size_of put' + 2) (reached r1)
    (ReturnPlace k.call.beginning.head.number) k.call.end (omega arith) h.end h.near
    (record { reserved_stay = λ y u. refl; known_stay = λ b y u q. (q.0, tt); set = λ y u. refl })
    (back_of put' jump l) (reached_holds r1) in
    reach_map _ (reach_then r1 r2) (λ b y q. (
      in_known {t = λ j. 0} {rs = nothing} frame o.image.parts
          (record {
            pc = q.pc;
            holds = record {
              body = record {
                services = q.holds.body.services;
                registers = q.holds.body.registers;
                bytes = q.holds.body.bytes;
                memory = q.holds.body.memory.0;
              };
              regs = tt;
            };
          }),
      q.holds.body.memory.1,
    ))

-- the block has come to its end
at_result :
    (words : ℕ) (k : Block) (source : Y.Number) (line i left' need most : ℕ) (h : IsReturnWith words k source line i
    left' need most)
    (debt c' : ℕ) (f' : Family) (v' : Services) (z : ℤ) (s : State) (y : Stretch) → is_of_precision 31 z ≡ true →
    HasWord k y (word z) c' f' v' s → y.wanted + size_of (store_word frame_register a0 (pos result)) ≤ debt →
    Linked k.call.surroundings.links k.call.code y.index
    (store_word frame_register a0 (pos result) ++ (JumpTo (ReturnPlace k.call.beginning.head.number) ∷ [])) →
    (i0 : ℕ) (f0 : Family) (v0 : Services) → Between k.call.code (i0 + debt) f0 v0 c' f' v' →
    AtEnd k.call left' i0 f0 v0 (Some (BasicNumber z)) s
at_result words k source line i left' need most h debt c' f' v' z s y wide q paid l i0 f0 v0 from =
    let p = q.point in
    let w = k.call.surroundings in
    let enough = h.enough in
    let n = newest_at h.begun q.among in
    let b = h.begun in
    let there = end_reaches words k source line i left' need most h y.index y.wanted (reached q.reach) (word z)
    (word_small z wide) q.among l (reached_holds q.reach) in
    let here : frame_under w.parts p.control.layers ≡ k.call.beginning.layer.at =
    ap (λ ls. frame_under w.parts ls) (q.among.later.layers ∙ b.resumes.layers) in
    record {
      point = p;
      after = q.numbers;
      activation = b.activation;
      resumes = resumes_among b q.among;
      image = q.among.image;
      remains = remains_then k.call.point k.first p b.remains q.among.later.remains;
      few = q.among.few;
      others = λ n more. let few = h.saved in q.among.others n (omega (arith, few, more));
      state = q.state;
      given = word z;
      result = subst (λ o. IsResult o (Some (BasicNumber z)) (word z)) (sym h.function) (refl, wide);
      reach = reach_map _ (repaid debt left' (omega (arith, paid, enough)) (reach_then q.reach there) from)
          (λ b' m is. (
            is.0,
            subst (λ o. HasGiven k.call.beginning.layer (place_in o) (word z) m) (sym h.function)
                (ap (λ at. load 4 m.machine.memory (at + result)) (sym here) ∙ is.1),
          ));
    }

-- ---- the statement

abbrev returned_value : BasicValue → Meaning (Unit {0})
returned_value v = returns (Some (kept (kind_of [] (Y.FixedLeaf 31)) (BasicText []) v))

pub return_with :
    (words : ℕ) (k : Block) (labels : List Label) (source : Y.Number) (line index left' need most : ℕ) →
    IsReturnWith words k source line index left' need most → L.Does (setting_around words k labels line most) need
    source → DoesWith words k labels (return_of source line) index left'
unfolding M.statement V.stored_value ◌>>=◌ ◌>>◌ returns
return_with words k labels source line index left' need most h ev p numbers c wanted f o paid there =
    let w = k.call.surroundings in
    let code = k.call.code in
    let e = k.environment in
    let stmt = return_of source line in
    let around' = at_line k.around line in
    let one = act_code line in
    let value' = number_code e (set_aside words) source in
    let last = word_returned e in
    let put' = store_word frame_register a0 (pos result) in
    let jump = JumpTo (ReturnPlace k.call.beginning.head.number) ∷ [] in
    let coded = own_return words k source line index left' need most h in
    let n0 = size_append one ((value' ++ []) ++ last) in
    let n1 = size_append (value' ++ []) last in
    let n2 = size_append value' [] in
    let n3 = ap (λ u. size_of u) coded in
    let n4 = size_append put' jump in
    let l = h.statement in
    let l1 = back_of one ((value' ++ []) ++ last) l in
    let lv = front_of value' [] (front_of (value' ++ []) last l1) in
    let ls = subst (Linked w.links code (index + size_of one + size_of (value' ++ []))) coded
    (back_of (value' ++ []) last l1) in
    let debt = size_of value' + size_of put' in
    let acts = p.state.world.acts in
    let aims = statement_aims k labels acts (index + size_with words k stmt) wanted left' in
    let owed = owing code debt aims in
    let closed = owing_closed code debt aims in
    let source' = V.stored_value around' (Y.StoredNumber 31 source) in
    let next' : Unit {0} → Meaning (Unit {0}) = λ u. source' >>= returned_value in
    let fit : ℤ → Meaning BasicValue =
    λ z. (R.value_of around' (checked 31 z)) >>= (λ z'. give (BasicNumber z')) in
    let all = h.paid in
    comes_owing debt (M.statement k.around stmt w.acts p.state)
    (comes_on w.acts (act counted w.acts p.state) next'
    (act_comes (before_closed w.acts next' closed) line (c + debt) 0 f (o.stands, o.image)
    (h.act.line_fits, h.act.acts, omega (arith, paid, n0, n1, n2, n3, n4))
    (front_of one ((value' ++ []) ++ last) l) there
    (λ g less at.
    let p' = acted line p in
    let o' = acted_among line o less in
    let flow = V.number around' source w.acts p'.state in
    let y = behind p' numbers 0 0 (index + size_of one) value' in
    comes_on w.acts (source' w.acts p'.state) returned_value
    (comes_on w.acts flow fit
    (comes_map (number_aims k labels y) (before code (before code owed w.acts returned_value) w.acts fit) refl flow
    (λ c' f' v' z s q.
    subst (Comes code c' f' v' (before code owed w.acts returned_value))
    (sym (fit_is around' z w.acts s q.0))
    (record {
      to = λ early. record {
        to = λ early i0 f0 v0 from. own_end h.kind
            (at_result words k source line index left' need most h debt c' f' v' z s y q.0 q.1 (omega arith)
            (linked_at (index + size_of one + size_of value') (put' ++ jump) (omega (arith, n2)) ls) i0 f0 v0 from);
      };
    }))
    (λ c' f' v' height label s q.
    λ i0 f0 v0 from. jumps_repaid debt from (jumps_since (omega arith) q))
    (λ c' f' v' r s q. absurd q)
    (ev p' numbers 0 0 (index + size_of one) g o' refl (let room = h.registers in omega (arith, room), h.held) lv
    (omega (arith, all, n0, n1, n2)) at))))))

-- where no words are set aside
pub return_does :
    (k : Block) (labels : List Label) (source : Y.Number) (line index left' need most : ℕ) →
    IsReturn k source line index left' need most → L.Does (setting_of k labels line most) need source →
    Does k labels (return_of source line) index left'
return_does k labels source line index left' need most h ev =
    return_with 0 k labels source line index left' need most h ev
