-- The name of a variable of the block, or of a block around it, is found and passed.
use Rattle.std.proofs.Common.{◌≡◌, inl, inr, ℕ, ◌+◌, ◌*◌, ◌^◌, ◌<◌, List, [], ◌∷◌, ◌++◌, length, Option}
use Rattle.std.proofs.Common.{Some, Bool, true, false, refl, sym, ap, ◌∙◌, subst, arith}
use Rattle.std.proofs.lemmas.Bool.{eq-eqb}
use Rattle.std.proofs.lemmas.Int.{ints}
use Rattle.std.proofs.lemmas.List.{append_assoc}
use Rattle.std.specs.Prelude.{cond, pos, unwrap_or, ◌&&◌, ◌==◌}
use Rattle.rv_meaning.specs.declared.instr.ImmediateOp.TheVariants as Imm
use Rattle.rv_meaning.specs.declared.instr.Instr.{Instr}
use Rattle.rv_meaning.specs.declared.instr.Instr.TheVariants as I
use Rattle.rv_meaning.specs.declared.instr.LoadKind.TheVariants as Load
use Rattle.rv_meaning.specs.Memory.{load}
use Rattle.rv_meaning.specs.Words.{sum, word}
use Rattle.pli_typing.specs.TypedTree as Y
use Rattle.pli_meaning.specs.BasicValues.{VariableName}
use Rattle.pli_meaning.specs.Control.{Normal, flow_on, give, ◌>>=◌}
use Rattle.pli_meaning.specs.DeclaredShapes.{declared_variable}
use Rattle.pli_meaning.specs.Evaluating as V
use Rattle.pli_meaning.specs.Raising.{Around, PassedName}
use Rattle.pli_meaning.specs.StorageState.{Activation, State, ancestor, binding_in, living_of, newest_height}
use Rattle.pli_coding.specs.Assembly.{Code, Plain, size_of}
use Rattle.pli_coding.specs.Environments.{Environment, no_declaration}
use Rattle.pli_coding.specs.Expressions.{argument_place, refer_checked}
use Rattle.pli_coding.specs.Frames.{MemoryParts, automatic_place, display, own_offset}
use Rattle.pli_coding.specs.Instructions.{is_immediate, load_word, number, plus, small, status_tested}
use Rattle.pli_coding.specs.Instructions.{tested_service}
use Rattle.pli_coding.specs.Locating.{FrameName, KnownNumber, may_refer, own_signature, table_number}
use Rattle.pli_coding.specs.Registers.{a0, a1, a2, a7, frame_register, u1}
use Rattle.pli_coding.specs.SignatureTable.{is_open, signature_of}
use Rattle.activation_relation.specs.FrameLaws.{with_waits}
use Rattle.activation_relation.specs.Frames.{AreLaid, FramesStand, frame_under}
use Rattle.activation_relation.specs.Layers.{Layer, Point, services_of}
use Rattle.activation_relation.specs.Points.{Surroundings}
use Rattle.activation_relation.proofs.Remaining.{shapes_remain}
use Rattle.run_steps.specs.Bodies.{Known}
use Rattle.run_steps.proofs.Bodies.{displaced_by, load_piece, lose_known, set_known}
use Rattle.run_steps.proofs.Increments.{load_own}
use Rattle.run_steps.specs.Engine.{Base}
use Rattle.run_steps.specs.Items.{At, Linked}
use Rattle.run_steps.proofs.Jumps.{back_of, front_of}
use Rattle.run_steps.proofs.Linking.{size_append}
use Rattle.run_steps.proofs.Numbers.{above_small}
use Rattle.run_steps.specs.Reach.{Family, Reach, reached}
use Rattle.run_steps.proofs.Reach.{reach_then, reached_holds}
use Rattle.run_steps.proofs.Reaching.{reach_moved}
use Rattle.run_steps.specs.Reaching.{Reaches}
use Rattle.run_steps.specs.Temporaries.{nothing}
use Rattle.block_runs.specs.Machines.{AreEven, HasParts, IsIn}
use Rattle.block_runs.proofs.Places.{IsFrame, inside_memory, newest_frame, word_in}
use Rattle.block_runs.proofs.PointGrounds.{StandsIn, known_in, point_ground}
use Rattle.program_runs.specs.Statements.{Block, IsAmong, IsBegun}
use Rattle.expression_runs.specs.Values.{Setting}
use Rattle.expression_runs.specs.Variables.{IsNumber, Spot, number_declared, variable_of, whole}
use Rattle.expression_runs.proofs.VariableMeaning as N
use Rattle.expression_runs.proofs.VariablePoints.{reaches_by}
use Rattle.argument_runs.specs.Lists.{layered, with_list}
use Rattle.argument_runs.specs.Parameters.{parameter_shape}
use Rattle.argument_runs.proofs.Parameters.{generation_is}
use Rattle.reference_runs.specs.References.{Reference}
use Rattle.word_runs.specs.Words.{telling}
use Rattle.word_runs.proofs.Words.{begun_telling, frame_told, number_told}
use Rattle.list_calls.specs.Arguments.{Passes, name_code}
use Rattle.list_calls.specs.Lists.{Told, name_told}
use Rattle.list_calls.specs.Passed.{HasTold, IsNamed}
use Rattle.list_calls.proofs.ListGiving.{told_again, told_itself}
use Rattle.list_calls.proofs.NamePassing.{Finds, HasNameAt, name_passed, passing_code, place_code, signs_known}
use Rattle.list_calls.proofs.NamePassing.{storing_code}

-- ---- where the name stands

-- a layer's frame tells it, and where it stands itself
record ToldThere (frame : ℕ) (r : Reference) (m : List ℕ) : Type 0 where
  own : load 4 m (frame + 36) ≡ frame
  name : HasNameAt (frame + r.place) r.serial m

told_found :
    (parts : MemoryParts) (base : ℕ) (m : List ℕ) (as' : List Activation) (φs : List Layer) (frame : ℕ)
    (r : Reference) → FramesStand parts base m as' φs → HasTold φs frame r → ToldThere frame r m
told_found parts base m as' [] frame r h t = absurd t
told_found parts base m [] (φ ∷ φs) frame r h t = absurd h
told_found parts base m (a ∷ as') (φ ∷ φs) frame r h (inl t) =
    let told = h.0.told in
    subst (λ n. ToldThere n r m) t.0
    (record {
      own = h.0.own;
      name = record {
        kind = told r.place 1 t.1.kind;
        second = ap (load 4 m) (sym (next φ.at r.place 4)) ∙ told (r.place + 4) 0 t.1.second;
        low = ap (load 4 m) (sym (next φ.at r.place 8)) ∙ told (r.place + 8) _ t.1.low;
        high = ap (load 4 m) (sym (next φ.at r.place 12)) ∙ told (r.place + 12) _ t.1.high;
      };
    })
  where
    next : (n j i : ℕ) → n + (j + i) ≡ n + j + i
    next n j i = omega arith
told_found parts base m (a ∷ as') (φ ∷ φs) frame r h (inr t) = told_found parts base m as' φs frame r h.1 t

told_frame :
    (parts : MemoryParts) (φs : List Layer) (frame : ℕ) (r : Reference) → HasParts parts → AreLaid parts φs →
    AreEven parts φs → HasTold φs frame r → IsFrame frame
told_frame parts [] frame r has laid even t = absurd t
told_frame parts (φ ∷ φs) frame r has laid even (inl t) =
    subst IsFrame t.0 (newest_frame parts (φ ∷ φs) has laid even)
told_frame parts (φ ∷ φs) frame r has laid even (inr t) = told_frame parts φs frame r has laid.1 even.1 t

-- ---- its offset comes into a0

abbrev name_by : (q : Bool) → (level place : ℕ) → Code
name_by q level place =
    cond q [] (load_word a0 frame_register (display level))
    ++ (load_word a0 (cond q frame_register a0) own_offset ++ plus a0 a0 (pos place))

offset_sum : (at n : ℕ) → at + n < 2 ^ 24 → sum at (word (pos n)) ≡ at + n
offset_sum at n few = omega (arith, ints, few)

plus_comes :
    {w : Surroundings} {code : List Instr} {p : Point} {numbers : ℕ → ℕ} {i : ℕ} (base place c : ℕ) (f : Family)
    (h : IsFrame (frame_under w.parts p.control.layers)) → base + place < 2 ^ 24 →
    Linked w.links code i (plus a0 a0 (pos place)) →
    ((b : Base) → At b i (Known (point_ground w p h) (services_of p) numbers (λ n. 0) (λ b'. (10, base) ∷ []) b) (f b)) →
    Reach code c f (services_of p) (c + size_of (plus a0 a0 (pos place))) (services_of p)
    (λ b y. At b (i + size_of (plus a0 a0 (pos place))) (Known (point_ground w p h) (services_of p) numbers (λ n. 0)
    (λ b'. (10, base + place) ∷ []) b) y)
plus_comes {w} {p = p} {numbers = numbers} base place c f h few l there =
    let g = point_ground w p h in
    let v = services_of p in
    displaced_by (is_immediate (pos place)) c f (λ q d. I.Immediate Imm.Add a0 q d) a0 (pos place) (λ b. base)
    (Known g v numbers (λ n'. 0) (λ b'. (10, base) ∷ [])) (Known g v numbers (λ n'. 0) (λ b'. (10, base + place) ∷ []))
    (above_small place (omega (arith, few))) (λ b. omega (arith, few)) (λ y u. refl)
    (λ b. (there b).holds.regs.0) (omega arith)
    (record {
      does = λ b j y q d o e.
          set_known y 10 (sum (y.machine.registers q.index) (word d)) _ (λ b'. base + place)
          (record { reserved_stay = λ y u. refl; known_stay = λ b y u o. o; set = λ y u. refl })
          (e ∙ offset_sum base place few) (record { body = o.body; regs = tt });
      lost = λ b y u j o. lose_known y 31 u j
          (record { reserved_stay = λ y u. refl; known_stay = λ b y u o. o; set = λ y u. refl }) o;
    })
    l there

name_comes :
    (q : Bool) {w : Surroundings} {code : List Instr} {p : Point} {numbers : ℕ → ℕ} {i : ℕ} (level base place c : ℕ)
    (f : Family) (h : IsFrame (frame_under w.parts p.control.layers)) → Reaches q level (point_ground w p h) base →
    IsFrame base → ((b : Base) (m : List ℕ) → StandsIn w p b m → load 4 m (base + 36) ≡ base) →
    base + place < 2 ^ 24 → Linked w.links code i (name_by q level place) →
    ((b : Base) → At b i (Known (point_ground w p h) (services_of p) numbers (λ n. 0) nothing b) (f b)) →
    Reach code c f (services_of p) (c + size_of (name_by q level place)) (services_of p)
    (λ b y. At b (i + size_of (name_by q level place)) (Known (point_ground w p h) (services_of p) numbers (λ n. 0)
    (λ b'. (10, base + place) ∷ []) b) y)
name_comes true {w} {p = p} level base place c f h reaches frame own few l there =
    let at = frame_under w.parts p.control.layers in
    let first = load_word a0 frame_register own_offset in
    let second = plus a0 a0 (pos place) in
    let n = size_append first second in
    let r1 = load_piece c f a0 own_offset (at + 36) (λ b. base) (word_in at 36 h refl (omega arith))
    (λ b m o. ap (λ j. load 4 m (j + 36)) reaches ∙ own b m o)
    (record { reserved_stay = λ y u. refl; known_stay = λ b y u o. o; set = λ y u. refl })
    (record { reserved_stay = λ y u. refl; known_stay = λ b y u o. o; set = λ y u. refl })
    (front_of first second l) there in
    reach_moved (omega (arith, n)) (omega (arith, n))
    (reach_then r1 (plus_comes base place (c + size_of first) (reached r1) h few (back_of first second l)
    (reached_holds r1)))
name_comes false {w} {p = p} level base place c f h reaches frame own few l there =
    let at = frame_under w.parts p.control.layers in
    let zero' = load_word a0 frame_register (display level) in
    let first = load_word a0 a0 own_offset in
    let second = plus a0 a0 (pos place) in
    let n0 = size_append zero' (first ++ second) in
    let n = size_append first second in
    let l1 = back_of zero' (first ++ second) l in
    let r0 = load_piece c f a0 (display level) (at + (144 + 4 * level)) (λ b. b.at + base) reaches.0
    (λ b m o. reaches.1 (λ n. 0) b m o)
    (record { reserved_stay = λ y u. refl; known_stay = λ b y u o. o; set = λ y u. refl })
    (record { reserved_stay = λ y u. refl; known_stay = λ b y u o. o; set = λ y u. refl })
    (front_of zero' (first ++ second) l) there in
    let r1 = load_own (c + size_of zero') (reached r0) a0 Load.Word own_offset base (base + 36) (λ b. base)
    (word_in base 36 frame refl (omega arith)) (inside_memory base frame) (λ y u. refl) (λ b m o. own b m o)
    (record { reserved_stay = λ y u. refl; known_stay = λ b y u o. o; set = λ y u. refl })
    (record { reserved_stay = λ y u. refl; known_stay = λ b y u o. o; set = λ y u. refl })
    (front_of first second l1) (reached_holds r0) in
    reach_moved (omega (arith, n0, n)) (omega (arith, n0, n))
    (reach_then r0 (reach_then r1 (plus_comes base place (c + size_of zero' + size_of first) (reached r1) h few
    (back_of first second l1) (reached_holds r1))))

-- ---- its code

abbrev declared_as : Option Y.DeclaredVariable → Y.DeclaredVariable
declared_as o = unwrap_or o no_declaration

abbrev signature_as : Environment → Option Y.DeclaredVariable → ℕ
signature_as e o = cond (is_open (signature_of (declared_as o))) own_signature (table_number e (declared_as o))

abbrev refers : Option Y.DeclaredVariable → Bool
refers o = (0 + 1 == length (declared_as o).leaves) && may_refer (declared_as o)

-- by the declaration, and whether a level is itself
abbrev code_by :
    Environment → (place count n : ℕ) → Spot → (q : Bool) → Option Y.DeclaredVariable → (same : Bool) → Code
code_by e place count n x q o same =
    (name_by q x.level (automatic_place e.parts e.program x.block x.level x.index)
    ++ (number a1 (signature_as e o)
    ++ ((cond same [] (load_word a2 frame_register (display e.level))
    ++ (load_word a2 (cond same frame_register a2) own_offset
    ++ plus a2 a2 (argument_place (record { place = place; words = count }) n 0)))
    ++ (tested_service 9
    ++ refer_checked e (record {
      name = FrameName x.level (pos (automatic_place e.parts e.program x.block x.level x.index));
      number = KnownNumber (signature_as e o);
    }) (refers o)))))
    ++ storing_code (number u1 (signature_as e o)) place count n

coded :
    (e : Environment) (taken all place count n : ℕ) (x : Spot) (signature : ℕ) {initial : _} →
    declared_variable e.program (variable_of x) ≡ Some (number_declared initial) →
    table_number e (number_declared initial) ≡ signature →
    name_code e taken all place count n (variable_of x)
    ≡ passing_code (name_by (x.level == e.level) x.level (automatic_place e.parts e.program x.block x.level x.index))
    (number a1 signature) (number u1 signature) place count n
coded e taken all place count n x signature {initial} declared table =
    let q = x.level == e.level in
    let o = declared_variable e.program (variable_of x) in
    let first = name_by q x.level (automatic_place e.parts e.program x.block x.level x.index) in
    ap (λ s. code_by e place count n x q o s) (eq-eqb e.level e.level refl)
    ∙ ap (λ u. code_by e place count n x q u true) declared
    ∙ ap (λ m. plain first m) table
    ∙ joined first (number a1 signature) (place_code place count n)
    (small a7 9 ∷ (Plain I.Ecall ∷ status_tested)) (storing_code (number u1 signature) place count n)
  where
    plain : Code → ℕ → Code
    plain first m =
        (first ++ (number a1 m ++ (place_code place count n ++ (small a7 9 ∷ (Plain I.Ecall ∷ status_tested)))))
        ++ storing_code (number u1 m) place count n

    joined :
        (first num put ask last : Code) →
        (first ++ (num ++ (put ++ ask))) ++ last ≡ first ++ (num ++ (put ++ (ask ++ last)))
    joined first num put ask last =
        append_assoc first (num ++ (put ++ ask)) last
        ∙ ap (λ u. first ++ u) (append_assoc num (put ++ ask) last)
        ∙ ap (λ u. first ++ (num ++ u)) (append_assoc put ask last)

-- ---- what it means

holds_at :
    {k : Block} {numbers : ℕ → ℕ} {p : Point} (x : Spot) (is : IsNumber k x) → IsAmong k numbers p →
    (h : N.Holds p.state x) × (h.serial ≡ is.serial)
holds_at x is o =
    let on = o.later.remains.living is.serial is.living is.lives in
    let g = on.there.generation in (
      record {
        serial = is.serial;
        stands =
            ap (λ xs. binding_in (ancestor xs (newest_height xs) x.level) x.index) o.later.activations ∙ is.binding;
        values = g.values;
        living = on.there;
        lives = on.lives;
        generation = generation_is g (on.shape ∙ is.shape) (o.stands.lives.extents is.serial on.there on.lives);
      },
      refl,
    )

passed_means :
    (around : Around) {s : State} (x : Spot) (acts : ℕ) (h : N.Holds s x) →
    V.argument around (Y.ByReference (whole x)) acts s
    ≡ Normal (V.EvaluatedArgument (PassedName (VariableName h.serial) parameter_shape)) s
unfolding V.argument give ◌>>=◌
passed_means around x acts h =
    ap (λ flow. flow_on acts flow (λ d. give (V.EvaluatedArgument (PassedName d.name d.generation.shape))))
    (N.designated_is around acts h)

-- ---- the whole

finds :
    (k : Setting) {x : Spot} {φ : Layer} {φs : List Layer} {serial signature : ℕ} {numbers : ℕ → ℕ} (p : Point)
    (told : Told) → IsBegun k.block → k.block.first.control.layers ≡ φ ∷ φs →
    (is : IsNamed k.block x serial signature) → IsAmong (telling told φ φs k.block) numbers (with_list told φ φs p) →
    Finds k.block.call.surroundings k.block.call.code (with_list told φ φs p)
    (name_by (x.level == k.block.environment.level) x.level
    (automatic_place k.block.environment.parts k.block.environment.program x.block x.level x.index)) serial signature
finds k {x} {φ} {φs} {serial} {signature} {numbers} p told begun newest is o =
    let w = k.block.call.surroundings in
    let e = k.block.environment in
    let base = is.number.base in
    let place = automatic_place e.parts e.program x.block x.level x.index in
    let r : Reference = record { serial = serial; signature = signature; place = place } in
    let ls = (with_list told φ φs p).control.layers in
    let there = told_with φ φs told base r (subst (λ ms. HasTold ms base r) newest is.told) in
    let frame = told_frame w.parts ls base r o.image.parts o.stands.laid o.image.even there in
    let high = frame.high in
    let inside = is.number.inside in
    let block' = telling told φ φs k.block in
    let frame' = frame_told k.block φ φs told newest x.level base is.number.frame in
    let on = o.later.remains.living is.number.serial is.number.living is.number.lives in
    record {
      from = base + place;
      low = omega (arith, high);
      inside = omega (arith, inside);
      there = λ b m bytes stands. (told_found w.parts b.at m p.state.activations ls base r stands.frames there).name;
      comes = λ h c f l at.
          name_comes (x.level == e.level) x.level base place c f h
          (reaches_by {k = block'} x.level base h (begun_telling k.block φ φs told newest begun) o frame') frame
          (λ b m stands. (told_found w.parts b.at m p.state.activations ls base r stands.frames there).own)
          (omega (arith, inside)) l (λ b. known_in h (at b) tt);
      living = on.there;
      lives = subst (λ n. living_of p.state.living n ≡ Some on.there) is.serial_is
          on.lives;
      shape = on.shape ∙ is.number.shape;
      numbered = shapes_remain o.later.remains signature parameter_shape is.numbered;
      number = is.small;
      small' = is.few;
    }
  where
    told_with :
        (φ : Layer) (φs : List Layer) (told : Told) (base : ℕ) (r : Reference) → HasTold (φ ∷ φs) base r →
        HasTold (with_waits told φ ∷ φs) base r
    told_with φ φs told base r (inl t) = inl t
    told_with φ φs told base r (inr t) = inr t

pub variables_passed :
    (k : Setting) (x : Spot) (φ : Layer) (φs : List Layer) (serial signature : ℕ) → IsBegun k.block →
    k.block.first.control.layers ≡ φ ∷ φs → IsNamed k.block x serial signature →
    Passes k φ φs (variable_of x) serial signature
unfolding number_told
variables_passed k x φ φs serial signature begun newest is =
    record {
      comes = λ told p numbers taken all place count n last credits index f o part' l there.
          let w = k.block.call.surroundings in
          let o' = told_again k told newest o in
          let here = o.later.layers in
          let eq = coded k.block.environment taken all place count n x signature is.number.declared is.table in
          let l' = subst (Linked w.links k.block.call.code index) eq l in
          let r = name_passed p φ φs told place count n last credits index f (o'.stands, o'.image)
          (finds k {x = x} {numbers = numbers} p told begun newest is o')
          (signs_known k.block.call.surroundings k.block.call.code p φ φs _ signature is.small) part' l'
          (λ b. told_itself (with_waits told φ ∷ φs) here (there b)) in
          subst (λ c. Reach k.block.call.code credits f (services_of p) (credits + size_of c)
          (services_of (with_list (name_told last serial signature 0 told) φ φs p))
          (λ b y. IsIn w (with_list (name_told last serial signature 0 told) φ φs p) numbers (index + size_of c) b y))
          (sym eq)
          (subst (λ v. Reach k.block.call.code credits f v
          (credits + size_of (passing_code (name_by (x.level == k.block.environment.level) x.level
          (automatic_place k.block.environment.parts k.block.environment.program x.block x.level x.index))
          (number a1 signature) (number u1 signature) place count n))
          (services_of (with_list (name_told last serial signature 0 told) φ φs p))
          (λ b y. IsIn w (with_list (name_told last serial signature 0 told) φ φs p) numbers
          (index + size_of (passing_code (name_by (x.level == k.block.environment.level) x.level
          (automatic_place k.block.environment.parts k.block.environment.program x.block x.level x.index))
          (number a1 signature) (number u1 signature) place count n)) b y))
          (ap (λ ls. services_of (layered ls p)) (sym here)) r);
      means = λ told p numbers o.
          let block' = telling told φ φs k.block in
          let h = holds_at {k = block'} x (number_told k.block φ φs told newest x is.number) o in
          passed_means k.around x k.block.call.surroundings.acts h.0
          ∙ ap (λ s. Normal (V.EvaluatedArgument (PassedName (VariableName s) parameter_shape)) p.state)
          (h.1 ∙ is.serial_is);
    }
