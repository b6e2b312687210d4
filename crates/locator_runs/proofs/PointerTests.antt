-- Comparisons of POINTER variables of the running frame leave the bit that they mean.
use Rattle.std.proofs.Common.{◌≡◌, ℕ, suc, ◌+◌, ◌*◌, ◌^◌, ◌<◌, [], ◌∷◌, ◌++◌, Bool, true, false}
use Rattle.std.proofs.Common.{Option, Some, None, refl, sym, ap, ◌∙◌, subst, arith}
use Rattle.std.proofs.lemmas.List.{append_assoc}
use Rattle.std.specs.Prelude.{ℤ, ◌==◌, bit_or, bit_xor, not, pos, is_some, unwrap_or, if◌then◌else◌}
use Rattle.rv_meaning.specs.declared.instr.RegisterOp.TheVariants as Op
use Rattle.rv_meaning.specs.Words.{sum}
use Rattle.pli_typing.specs.TypedTree as Y
use Rattle.pli_meaning.specs.BasicValues.{NullName}
use Rattle.pli_meaning.specs.Contents.{same_name}
use Rattle.pli_meaning.specs.Control.{flow_on, give, ◌>>=◌}
use Rattle.pli_meaning.specs.DeclaredShapes.{declared_variable}
use Rattle.pli_meaning.specs.Evaluating as V
use Rattle.pli_meaning.specs.Raising.{Around}
use Rattle.pli_meaning.specs.StorageState.{State}
use Rattle.pli_coding.specs.Arithmetic.{compared_code, equal_code}
use Rattle.pli_coding.specs.Assembly.{Code, size_of}
use Rattle.pli_coding.specs.Environments.{Environment, Taken, with_words}
use Rattle.pli_coding.specs.Expressions.{bit_code, names_compared, null_compared, null_differs, own_standing}
use Rattle.pli_coding.specs.Expressions.{pointer_to}
use Rattle.pli_coding.specs.Expressions.{where_waiting, words_differ}
use Rattle.pli_coding.specs.Instructions.{load_word, move, registers, small}
use Rattle.pli_coding.specs.Locating.{waiting_name}
use Rattle.pli_coding.specs.Registers.{a0, frame_register, u0, u1, u2, zero_register}
use Rattle.storage_relation.proofs.NameWords.{name_words}
use Rattle.activation_relation.specs.Layers.{Point, services_of}
use Rattle.run_steps.specs.Bodies.{Known}
use Rattle.run_steps.proofs.Bodies.{load_piece, zero_is}
use Rattle.run_steps.specs.Engine.{Base}
use Rattle.run_steps.specs.Items.{Linked}
use Rattle.run_steps.proofs.Items.{straight}
use Rattle.run_steps.proofs.Jumps.{back_of, front_of}
use Rattle.run_steps.proofs.Linking.{size_append}
use Rattle.run_steps.specs.Reach.{Comes, Family, reached}
use Rattle.run_steps.proofs.Reach.{onward, reach_then, reached_holds}
use Rattle.run_steps.proofs.Reaching.{reach_moved}
use Rattle.run_steps.specs.Temporaries.{nothing}
use Rattle.image_runs.specs.Runs.{Whole}
use Rattle.block_runs.specs.Machines.{AreIn}
use Rattle.block_runs.proofs.BlockEntries.{small_is}
use Rattle.block_runs.proofs.PointGrounds.{known_in, point_frame, point_ground}
use Rattle.program_runs.specs.Statements.{Block, IsAmong}
use Rattle.expression_runs.specs.Values.{Setting, behind, in_registers}
use Rattle.expression_runs.specs.Variables.{Spot, variable_of, whole}
use Rattle.expression_runs.proofs.Words.{frame_of}
use Rattle.test_runs.specs.Tests.{Tests, bit_aims}
use Rattle.test_runs.proofs.Bits.{compared_reach}
use Rattle.test_runs.proofs.Operands.{bit_closed, leaves_bit}
use Rattle.area_runs.specs.Based.{pointer_declared}
use Rattle.area_runs.proofs.BasedCode.{name_at_place}
use Rattle.area_runs.proofs.BasedMeaning.{Points}
use Rattle.locator_runs.specs.Comparisons.{comparison}
use Rattle.locator_runs.specs.Pointers.{IsPointer}
use Rattle.locator_runs.proofs.FourParts.{PartGoes, four_go, four_parts}
use Rattle.locator_runs.proofs.NameTests.{any_of, any_small, both_told, compared_is, comparison_of, differing}
use Rattle.locator_runs.proofs.NameTests.{differing_small, null_small, null_told, result_of}
use Rattle.locator_runs.proofs.NameWrites.{word_of, word_told}
use Rattle.locator_runs.proofs.PointerCode.{own_placed, standing_by}
use Rattle.locator_runs.proofs.PointerMeaning.{pointer_means}
use Rattle.locator_runs.proofs.PointerPoints.{PointerAt, pointer_in, pointer_place}
use Rattle.locator_runs.proofs.PointerWrites.{place_in}

-- ---- the code

abbrev last_code : (equal : Bool) → Code
last_code equal = move u1 zero_register ∷ move a0 u0 ∷ equal_code equal

abbrev tested_code : (ℕ → Code) → (equal : Bool) → Code
tested_code part equal = (small u0 0 ∷ four_parts part) ++ last_code equal

joined : (a b c d e : Code) → a ++ (b ++ (c ++ (d ++ e))) ≡ (a ++ (b ++ (c ++ d))) ++ e
joined a b c d e =
    ap (λ u. a ++ (b ++ u)) (sym (append_assoc c d e))
    ∙ ap (λ u. a ++ u) (sym (append_assoc b (c ++ d) e))
    ∙ sym (append_assoc a (b ++ (c ++ d)) e)

null_coded :
    (e : Environment) (t : Taken) (equal : Bool) (x : Spot) →
    declared_variable e.program (variable_of x) ≡ Some pointer_declared → (x.level == e.level) ≡ true →
    bit_code e t (comparison equal x Y.NullPointer)
    ≡ tested_code (null_differs (pos (name_at_place e x))) equal
null_coded e t equal x declared own =
    let z = pos (name_at_place e x) in
    ap (λ o. where_waiting o (pointer_to e t (waiting_name t) (Y.PointerIn (whole x)))
    ++ null_compared equal (unwrap_or o (waiting_name t))) (own_placed e x declared own)
    ∙ ap (λ u. small u0 0 ∷ u)
    (joined (null_differs z 0) (null_differs z 1) (null_differs z 2) (null_differs z 3) (last_code equal))

abbrev both_by : Environment → Taken → (equal : Bool) → (x y : Spot) → (left right : Option ℤ) → Code
both_by e t equal x y left right =
    where_waiting left (pointer_to e t (waiting_name t) (Y.PointerIn (whole x)))
    ++ (where_waiting right (pointer_to e (with_words 4 t) (waiting_name (with_words 4 t)) (Y.PointerIn (whole y)))
    ++ names_compared equal (unwrap_or left (waiting_name t)) (unwrap_or right (waiting_name (with_words 4 t))))

both_coded :
    (e : Environment) (t : Taken) (equal : Bool) (x y : Spot) →
    declared_variable e.program (variable_of x) ≡ Some pointer_declared → (x.level == e.level) ≡ true →
    declared_variable e.program (variable_of y) ≡ Some pointer_declared → (y.level == e.level) ≡ true →
    bit_code e t (comparison equal x (Y.PointerIn (whole y)))
    ≡ tested_code (words_differ (pos (name_at_place e x)) (pos (name_at_place e y))) equal
both_coded e t equal x y declared own declared' own' =
    let left = own_standing e (Y.PointerIn (whole x)) in
    let right = own_standing e (Y.PointerIn (whole y)) in
    ap (λ o. both_by e t equal x y (if is_some (standing_by e y o) then left else None) right) declared'
    ∙ ap (λ o. both_by e t equal x y o right) (own_placed e x declared own)
    ∙ ap (λ o. both_by e t equal x y (Some (pos (name_at_place e x))) o) (own_placed e y declared' own')

-- ---- the words

-- the bits of those compared so far in u0
abbrev HasBits : (k : Block) (p : Point) → frame_of k p → (ℕ → ℕ) → (numbers : ℕ → ℕ) → ℕ → Base → Whole → Type 0
HasBits k p h d numbers n b y =
    Known (point_ground k.call.surroundings p h) (services_of p) numbers (λ j. 0) (λ b'. (5, any_of d n) ∷ []) b y

null_goes :
    {k : Block} {x : Spot} {numbers : ℕ → ℕ} {p : Point} (is : IsPointer k x) (o : IsAmong k numbers p)
    (t : PointerAt k x is p) →
    PartGoes k.call.surroundings.links k.call.code (services_of p)
    (HasBits k p (point_frame o.stands o.image) (word_of t.points.name) numbers)
    (null_differs (pos (name_at_place k.environment x)))
null_goes {k} {x} {numbers} {p} is o t n c i f less l there =
    let w = k.call.surroundings in
    let h = point_frame o.stands o.image in
    let v = services_of p in
    let a = t.points.name in
    let at = pointer_place is in
    let first = load_word u1 frame_register (pos (name_at_place k.environment x + 4 * n)) in
    let last = registers Op.Or u0 u0 u1 ∷ [] in
    let n1 = size_append first last in
    let r1 = load_piece c f u1 (pos (name_at_place k.environment x + 4 * n)) (at + 4 * n) (λ b. word_of a n)
    (place_in is o t.even n less)
    (λ b m s. word_told a at m (name_words a at m (t.tells m s.storage)) n less)
    (record { reserved_stay = λ z u. refl; known_stay = λ b z u s. s; set = λ z u. refl })
    (record { reserved_stay = λ z u. refl; known_stay = λ b z u s. s; set = λ z u. refl })
    (front_of first last l) there in
    let r2 = straight (c + size_of first) (reached r1) v v
    (λ b y. HasBits k p h (word_of a) numbers (suc n) b y) (back_of first last l) (omega arith)
    (λ b. (reached_holds r1 b).pc)
    (λ b. let s = (reached_holds r1 b).holds in
    let z = (reached r1 b).machine.registers in record {
      body = record {
        services = s.body.services;
        registers = s.body.registers;
        bytes = s.body.bytes;
        memory = s.body.memory;
      };
      regs = (ap (λ u. bit_or u (z 6)) s.regs.1.0 ∙ ap (bit_or (any_of (word_of a) n)) s.regs.0, tt);
    }) in
    reach_moved (omega (arith, n1)) (omega (arith, n1)) (reach_then r1 r2)

both_go :
    {k : Block} {x y : Spot} {numbers : ℕ → ℕ} {p : Point} (is : IsPointer k x) (js : IsPointer k y)
    (o : IsAmong k numbers p) (t : PointerAt k x is p) (t' : PointerAt k y js p) →
    PartGoes k.call.surroundings.links k.call.code (services_of p)
    (HasBits k p (point_frame o.stands o.image) (differing t.points.name t'.points.name) numbers)
    (words_differ (pos (name_at_place k.environment x)) (pos (name_at_place k.environment y)))
both_go {k} {x} {y} {numbers} {p} is js o t t' n c i f less l there =
    let w = k.call.surroundings in
    let h = point_frame o.stands o.image in
    let v = services_of p in
    let a = t.points.name in
    let a' = t'.points.name in
    let at = pointer_place is in
    let at' = pointer_place js in
    let first = load_word u1 frame_register (pos (name_at_place k.environment x + 4 * n)) in
    let second = load_word u2 frame_register (pos (name_at_place k.environment y + 4 * n)) in
    let last = registers Op.Xor u1 u1 u2 ∷ registers Op.Or u0 u0 u1 ∷ [] in
    let n1 = size_append first (second ++ last) in
    let n2 = size_append second last in
    let l1 = back_of first (second ++ last) l in
    let r1 = load_piece c f u1 (pos (name_at_place k.environment x + 4 * n)) (at + 4 * n) (λ b. word_of a n)
    (place_in is o t.even n less)
    (λ b m s. word_told a at m (name_words a at m (t.tells m s.storage)) n less)
    (record { reserved_stay = λ z u. refl; known_stay = λ b z u s. s; set = λ z u. refl })
    (record { reserved_stay = λ z u. refl; known_stay = λ b z u s. s; set = λ z u. refl })
    (front_of first (second ++ last) l) there in
    let r2 = load_piece (c + size_of first) (reached r1) u2 (pos (name_at_place k.environment y + 4 * n)) (at' + 4 * n)
    (λ b. word_of a' n) (place_in js o t'.even n less)
    (λ b m s. word_told a' at' m (name_words a' at' m (t'.tells m s.storage)) n less)
    (record { reserved_stay = λ z u. refl; known_stay = λ b z u s. s; set = λ z u. refl })
    (record { reserved_stay = λ z u. refl; known_stay = λ b z u s. s; set = λ z u. refl })
    (front_of second last l1) (reached_holds r1) in
    let d = any_of (differing a a') n in
    let r3 = straight (c + size_of first + size_of second) (reached r2) v v
    (λ b z. HasBits k p h (differing a a') numbers (suc n) b z) (back_of second last l1) (omega arith)
    (λ b. (reached_holds r2 b).pc)
    (λ b. let s = (reached_holds r2 b).holds in
    let z = (reached r2 b).machine.registers in record {
      body = record {
        services = s.body.services;
        registers = s.body.registers;
        bytes = s.body.bytes;
        memory = s.body.memory;
      };
      regs = (
        ap (λ u. bit_or u (bit_xor (z 6) (z 7))) s.regs.1.1.0
            ∙ ap (λ u. bit_or d (bit_xor u (z 7))) s.regs.1.0
            ∙ ap (λ u. bit_or d (bit_xor (word_of a n) u)) s.regs.0,
        tt,
      );
    }) in
    reach_moved (omega (arith, n1, n2)) (omega (arith, n1, n2)) (reach_then r1 (reach_then r2 r3))

-- ---- the whole

equal_is : (equal : Bool) → equal_code equal ≡ compared_code (comparison_of equal)
equal_is true = refl
equal_is false = refl

moved_is : (u n : ℕ) → u ≡ n → n < 2 ^ 32 → sum u 0 ≡ n
moved_is u n e less = omega (arith, e, less)

tested :
    (k : Setting) (p : Point) (numbers : ℕ → ℕ) (taken c index : ℕ) (f : Family) (equal same : Bool) (d : ℕ → ℕ)
    (part : ℕ → Code) (o : IsAmong k.block numbers p) → ((n : ℕ) → d n < 2 ^ 32) → (any_of d 4 == 0) ≡ same →
    PartGoes k.block.call.surroundings.links k.block.call.code (services_of p)
    (HasBits k.block p (point_frame o.stands o.image) d numbers) part →
    Linked k.block.call.surroundings.links k.block.call.code index (tested_code part equal) →
    AreIn k.block.call.surroundings p numbers index f →
    Comes k.block.call.code c f (services_of p)
    (bit_aims k.block k.labels (behind p numbers taken c index (tested_code part equal)))
    (give (result_of equal same) k.block.call.surroundings.acts p.state)
tested k p numbers taken c index f equal same d part o few told goes l there =
    let w = k.block.call.surroundings in
    let code = k.block.call.code in
    let h = point_frame o.stands o.image in
    let v = services_of p in
    let zero' = small u0 0 ∷ [] in
    let four = four_parts part in
    let two = move u1 zero_register ∷ move a0 u0 ∷ [] in
    let ends = equal_code equal in
    let u = any_of d 4 in
    let n0 = size_append (small u0 0 ∷ four) (last_code equal) in
    let n1 = size_append zero' four in
    let n2 = size_append two ends in
    let lf = front_of (small u0 0 ∷ four) (last_code equal) l in
    let ll = back_of (small u0 0 ∷ four) (last_code equal) l in
    let r0 = straight c f v v (λ b y. HasBits k.block p h d numbers 0 b y) (front_of zero' four lf) (omega arith)
    (λ b. (known_in {t = λ j. 0} {rs = nothing} h (there b) tt).pc)
    (λ b. let s = (known_in {t = λ j. 0} {rs = nothing} h (there b) tt).holds in record {
      body = record {
        services = s.body.services;
        registers = s.body.registers;
        bytes = s.body.bytes;
        memory = s.body.memory;
      };
      regs = (small_is _ 0 (zero_is s.body) (omega arith), tt);
    }) in
    let r1 = four_go w.links code v (HasBits k.block p h d numbers) part (c + 1) (index + 1) (reached r0) goes
    (back_of zero' four lf) (reached_holds r0) in
    let r2 = straight (c + 1 + size_of four) (reached r1) v v
    (λ b y. Known (point_ground w p h) v numbers (λ j. 0) (λ b'. (6, 0) ∷ (10, u) ∷ []) b y)
    (linked_moved (index + size_of (small u0 0 ∷ four)) (index + 1 + size_of four) (omega (arith, n1))
    (front_of two ends ll))
    (omega arith) (λ b. (reached_holds r1 b).pc)
    (λ b. let s = (reached_holds r1 b).holds in record {
      body = record {
        services = s.body.services;
        registers = s.body.registers;
        bytes = s.body.bytes;
        memory = s.body.memory;
      };
      regs = (
        small_is _ 0 (zero_is s.body) (omega arith),
        (moved_is _ u s.regs.0 (any_small d 4 few), tt),
      );
    }) in
    let r3 = compared_reach k p numbers (c + 1 + size_of four + 2) (index + 1 + size_of four + 2) (reached r2) h
    (comparison_of equal) 0 u (result_of equal same) (compared_is equal u same told)
    (subst (Linked w.links code (index + 1 + size_of four + 2)) (equal_is equal)
    (linked_moved (index + size_of (small u0 0 ∷ four) + size_of two) (index + 1 + size_of four + 2) (omega (
      arith,
      n1,
    )) (back_of two ends ll)))
    (reached_holds r2) in
    let n3 = ap (λ y. size_of y) (equal_is equal) in
    let all = reach_moved {c'' = c + size_of (tested_code part equal)} {i'' = index + size_of (tested_code part equal)}
    (omega (arith, n0, n1, n2, n3)) (omega (arith, n0, n1, n2, n3))
    (reach_then r0 (reach_then r1 (reach_then r2 r3))) in
    onward (bit_closed k.block k.labels (behind p numbers taken c index (tested_code part equal))) all
    (λ g at'. leaves_bit k p numbers taken c index g (result_of equal same) (tested_code part equal) h o at')
  where
    linked_moved :
        {xs : Code} (i j : ℕ) → i ≡ j → Linked k.block.call.surroundings.links k.block.call.code i xs →
        Linked k.block.call.surroundings.links k.block.call.code j xs
    linked_moved {xs} i j e l' =
        subst (λ n. Linked k.block.call.surroundings.links k.block.call.code n xs) e l'

-- ---- what they mean

null_means :
    (around : Around) {s : State} {x : Spot} (equal : Bool) (acts : ℕ) (t : Points s x) →
    V.bit around (comparison equal x Y.NullPointer) acts s
    ≡ give (result_of equal (same_name t.name NullName)) acts s
unfolding V.bit V.pointer ◌>>=◌ give
null_means around {s} {x} equal acts t =
    ap (λ q. flow_on acts q (λ a. give (if equal then same_name a NullName else not (same_name a NullName))))
    (pointer_means around {x = x} acts t)

both_mean :
    (around : Around) {s : State} {x y : Spot} (equal : Bool) (acts : ℕ) (t : Points s x) (t' : Points s y) →
    V.bit around (comparison equal x (Y.PointerIn (whole y))) acts s
    ≡ give (result_of equal (same_name t.name t'.name)) acts s
unfolding V.bit ◌>>=◌ give
both_mean around {s} {x} {y} equal acts t t' =
    ap (λ q. flow_on acts q (λ a. (V.pointer around (Y.PointerIn (whole y))) >>= (λ b. give (if equal
    then same_name a b else not (same_name a b))))) (pointer_means around {x = x} acts t)
    ∙ ap (λ q. flow_on acts q (λ b. give (if equal then same_name t.name b else not (same_name t.name b))))
    (pointer_means around {x = y} acts t')

pub null_tests :
    (k : Setting) (equal : Bool) (x : Spot) → IsPointer k.block x → Tests k 0 (comparison equal x Y.NullPointer)
null_tests k equal x is p numbers taken c index f o line registers' l paid there =
    let e = k.block.environment in
    let w = k.block.call.surroundings in
    let code = k.block.call.code in
    let coded = null_coded e (in_registers k.words taken) equal x is.known.declared is.own in
    let t = pointer_in x is o f there in
    let a = t.points.name in
    subst (λ xs. Comes code c f (services_of p) (bit_aims k.block k.labels (behind p numbers taken c index xs))
    (V.bit k.around (comparison equal x Y.NullPointer) w.acts p.state)) (sym coded)
    (subst (Comes code c f (services_of p) (bit_aims k.block k.labels (behind p numbers taken c index
    (tested_code (null_differs (pos (name_at_place e x))) equal)))) (sym (null_means k.around equal w.acts t.points))
    (tested k p numbers taken c index f equal (same_name a NullName) (word_of a)
    (null_differs (pos (name_at_place e x))) o (null_small a t.fits) (null_told a) (null_goes is o t)
    (subst (Linked w.links code index) coded l) there))

pub both_test :
    (k : Setting) (equal : Bool) (x y : Spot) → IsPointer k.block x → IsPointer k.block y →
    Tests k 0 (comparison equal x (Y.PointerIn (whole y)))
both_test k equal x y is js p numbers taken c index f o line registers' l paid there =
    let e = k.block.environment in
    let w = k.block.call.surroundings in
    let code = k.block.call.code in
    let coded = both_coded e (in_registers k.words taken) equal x y is.known.declared is.own js.known.declared js.own in
    let t = pointer_in x is o f there in
    let t' = pointer_in y js o f there in
    let a = t.points.name in
    let a' = t'.points.name in
    let part = words_differ (pos (name_at_place e x)) (pos (name_at_place e y)) in
    subst (λ xs. Comes code c f (services_of p) (bit_aims k.block k.labels (behind p numbers taken c index xs))
    (V.bit k.around (comparison equal x (Y.PointerIn (whole y))) w.acts p.state)) (sym coded)
    (subst (Comes code c f (services_of p) (bit_aims k.block k.labels (behind p numbers taken c index
    (tested_code part equal)))) (sym (both_mean k.around equal w.acts t.points t'.points))
    (tested k p numbers taken c index f equal (same_name a a') (differing a a') part o
    (differing_small a a' t.fits t'.fits) (both_told a a') (both_go is js o t t')
    (subst (Linked w.links code index) coded l) there))
