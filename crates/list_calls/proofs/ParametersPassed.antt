-- The name of what a parameter of the block itself stands for is found in its list, and passed on.
use Rattle.std.proofs.Common.{◌≡◌, ℕ, ◌+◌, ◌*◌, ◌<◌, List, [], ◌∷◌, ◌++◌, length, Option, Some, Bool, true}
use Rattle.std.proofs.Common.{refl, sym, ap, ◌∙◌, subst, arith}
use Rattle.std.proofs.lemmas.Bool.{eq-eqb, le-leb}
use Rattle.std.proofs.lemmas.List.{append_assoc}
use Rattle.std.specs.Prelude.{ℤ, cond, pos, unwrap_or, ◌&&◌, ◌==◌}
use Rattle.rv_meaning.specs.declared.instr.ImmediateOp.TheVariants as Imm
use Rattle.rv_meaning.specs.declared.instr.Instr.{Instr}
use Rattle.rv_meaning.specs.declared.instr.Instr.TheVariants as I
use Rattle.rv_meaning.specs.declared.instr.LoadKind.TheVariants as Load
use Rattle.rv_meaning.specs.declared.instr.Register.{Register}
use Rattle.rv_meaning.specs.Memory.{load}
use Rattle.rv_meaning.specs.Words.{word}
use Rattle.pli_typing.specs.TypedTree as Y
use Rattle.pli_meaning.specs.BasicValues.{VariableName}
use Rattle.pli_meaning.specs.Control.{Normal, flow_on, give, ◌>>=◌}
use Rattle.pli_meaning.specs.DeclaredShapes.{declared_variable}
use Rattle.pli_meaning.specs.Evaluating as V
use Rattle.pli_meaning.specs.Raising.{Around, PassedName}
use Rattle.pli_meaning.specs.StorageState.{State, ancestor, binding_in, living_of, newest_height}
use Rattle.pli_coding.specs.Assembly.{Code, Item, Plain, size_of}
use Rattle.pli_coding.specs.Environments.{Environment, no_declaration}
use Rattle.pli_coding.specs.Expressions.{argument_place, refer_checked}
use Rattle.pli_coding.specs.Frames.{argument_at, display, list_offset, list_place, own_offset}
use Rattle.pli_coding.specs.Instructions.{add, immediate, load_word, plus, small, status_tested}
use Rattle.pli_coding.specs.Instructions.{store_word, tested_service}
use Rattle.pli_coding.specs.Linking.{lower_part, upper_part}
use Rattle.pli_coding.specs.Locating.{ListName, ListNumber, may_refer, number_of_parameter}
use Rattle.pli_coding.specs.Registers.{a0, a1, a2, a7, far_register, frame_register, u1, zero_register}
use Rattle.activation_relation.specs.FrameLaws.{with_waits}
use Rattle.activation_relation.specs.Frames.{frame_under}
use Rattle.activation_relation.specs.Layers.{Layer, Point, services_of}
use Rattle.activation_relation.specs.Remaining.{LivesOn}
use Rattle.activation_relation.specs.Frames.{word_place}
use Rattle.activation_relation.proofs.Remaining.{shapes_remain}
use Rattle.run_steps.specs.Bodies.{Known}
use Rattle.run_steps.proofs.Bodies.{load_piece}
use Rattle.run_steps.specs.Engine.{Base}
use Rattle.run_steps.proofs.Increments.{load_own}
use Rattle.run_steps.specs.Items.{At, Linked}
use Rattle.run_steps.proofs.Jumps.{back_of, front_of}
use Rattle.run_steps.proofs.Linking.{size_append}
use Rattle.run_steps.specs.Reach.{Family, Reach, reached}
use Rattle.run_steps.proofs.Reach.{reach_then, reached_holds}
use Rattle.run_steps.proofs.Reaching.{reach_moved}
use Rattle.block_runs.specs.Machines.{IsIn}
use Rattle.block_runs.proofs.Places.{IsFrame, inside_memory, word_in}
use Rattle.block_runs.proofs.PointGrounds.{point_ground}
use Rattle.program_runs.specs.Statements.{Block, IsAmong, IsBegun}
use Rattle.expression_runs.specs.Values.{Setting}
use Rattle.expression_runs.specs.Variables.{Spot}
use Rattle.argument_runs.specs.Lists.{layered, with_list}
use Rattle.argument_runs.specs.Parameters.{IsParameter, most_parameters, parameter, parameter_declared, parameter_of}
use Rattle.argument_runs.specs.Parameters.{parameter_shape}
use Rattle.argument_runs.proofs.ParameterCode as P
use Rattle.argument_runs.proofs.ParameterCode.{name_loaded}
use Rattle.argument_runs.proofs.Parameters.{frame_same, generation_is, lying, name_comes, part_of, words_at}
use Rattle.word_runs.specs.Words.{telling}
use Rattle.word_runs.proofs.Words.{begun_telling}
use Rattle.list_calls.specs.Arguments.{Passes, name_code}
use Rattle.list_calls.specs.Lists.{Told, name_told}
use Rattle.list_calls.proofs.ListGiving.{told_again, told_itself}
use Rattle.list_calls.proofs.NamePassing.{Finds, Signs, answered_regs, name_passed, number_regs, passing_code}

-- ---- a parameter of a block is one while words of its frame tell something

pub heads_same : (φ ψ : Layer) (φs ψs : List Layer) → φ ∷ φs ≡ ψ ∷ ψs → φ ≡ ψ
heads_same φ ψ φs ψs e = cc e

pub tails_same : (φ ψ : Layer) (φs ψs : List Layer) → φ ∷ φs ≡ ψ ∷ ψs → φs ≡ ψs
tails_same φ ψ φs ψs e = cc e

unfoldable pub parameter_told :
    (k : Block) (φ : Layer) (φs : List Layer) (waits : ℕ → Option ℕ) → k.first.control.layers ≡ φ ∷ φs → (x : Spot) →
    IsParameter k x → IsParameter (telling waits φ φs k) x
parameter_told k φ φs waits newest x is =
    let same = sym newest ∙ is.layers in
    let mine = heads_same φ is.layer φs (is.caller ∷ is.others) same in
    let rest = tails_same φ is.layer φs (is.caller ∷ is.others) same in
    record {
      begun = begun_telling k φ φs waits newest is.begun;
      declared = is.declared;
      place = is.place;
      numbered_so = is.numbered_so;
      near = is.near;
      own = is.own;
      serial = is.serial;
      binding = is.binding;
      living = is.living;
      lives = is.lives;
      shape = is.shape;
      layer = with_waits waits φ;
      caller = is.caller;
      others = is.others;
      signature = is.signature;
      layers = ap (λ ls. with_waits waits φ ∷ ls) rest;
      at = is.at;
      list = ap (λ (ψ : Layer). ψ.list) mine ∙ is.list;
      last = is.last;
      under = is.under;
      name = is.name;
      level = ap (λ (ψ : Layer). ψ.level) mine ∙ is.level;
      few = is.few;
      words = is.words;
      small = is.small;
      number = is.number;
      numbered = is.numbered;
      low = is.low;
      inside = is.inside;
    }

-- ---- its code

-- the number of its signature comes into a register by way of the list's address
abbrev signed_loaded : Register → (level place : ℕ) → Code
signed_loaded r level place =
    load_word r frame_register (pos (list_place level)) ++ load_word r r (argument_at place 4)

abbrev declared_as : Option Y.DeclaredVariable → Y.DeclaredVariable
declared_as o = unwrap_or o no_declaration

abbrev refers : Option Y.DeclaredVariable → Bool
refers o = (0 + 1 == length (declared_as o).leaves) && may_refer (declared_as o)

-- by the declaration, its place among the parameters, whether it is the block's own, and whether a level is itself
abbrev word_by : (q : Bool) → Register → (level : ℕ) → (place : ℕ) → Code
word_by q r level place =
    cond q [] (load_word r frame_register (display level))
    ++ (load_word r (cond q frame_register r) (pos (list_place level)) ++ load_word r r (argument_at place 4))

abbrev code_by :
    Environment → (place count n : ℕ) → Spot → Option Y.DeclaredVariable → (own : ℕ) → (q same : Bool) → Code
code_by e place count n x o own q same =
    ((cond q [] (load_word a0 frame_register (display x.level))
    ++ (load_word a0 (cond q frame_register a0) list_offset ++ plus a0 a0 (argument_at own 0)))
    ++ (word_by q a1 x.level own
    ++ ((cond same [] (load_word a2 frame_register (display e.level))
    ++ (load_word a2 (cond same frame_register a2) own_offset
    ++ plus a2 a2 (argument_place (record { place = place; words = count }) n 0)))
    ++ (tested_service 9
    ++ refer_checked e (record {
      name = ListName x.level (argument_at own 0);
      number = ListNumber x.level (argument_at own 4);
    }) (refers o)))))
    ++ (word_by q u1 x.level own
    ++ (store_word frame_register u1 (argument_place (record { place = place; words = count }) n 4)
    ++ store_word frame_register zero_register (argument_place (record { place = place; words = count }) n 5)))

coded :
    (e : Environment) (taken all place count n : ℕ) (x : Spot) (own : ℕ) →
    declared_variable e.program (parameter_of x) ≡ Some parameter_declared →
    number_of_parameter e (parameter_of x) ≡ own → own < most_parameters → (x.level == e.level) ≡ true →
    name_code e taken all place count n (parameter_of x)
    ≡ passing_code (name_loaded own) (signed_loaded a1 x.level own) (signed_loaded u1 x.level own) place count n
coded e taken all place count n x own declared numbered near level =
    let o = declared_variable e.program (parameter_of x) in
    let q = x.level == e.level in
    ap (λ s. code_by e place count n x o (number_of_parameter e (parameter_of x)) q s) (eq-eqb e.level e.level refl)
    ∙ ap (λ u. code_by e place count n x u (number_of_parameter e (parameter_of x)) q true) declared
    ∙ ap (λ m. code_by e place count n x (Some parameter_declared) m q true) numbered
    ∙ ap (λ u. code_by e place count n x (Some parameter_declared) own u true) level
    ∙ joined (load_word a0 frame_register list_offset ++ plus a0 a0 (argument_at own 0)) (signed_loaded a1 x.level own)
    (load_word a2 frame_register own_offset
    ++ plus a2 a2 (argument_place (record { place = place; words = count }) n 0))
    (small a7 9 ∷ (Plain I.Ecall ∷ status_tested))
    (signed_loaded u1 x.level own
    ++ (store_word frame_register u1 (argument_place (record { place = place; words = count }) n 4)
    ++ store_word frame_register zero_register (argument_place (record { place = place; words = count }) n 5)))
    ∙ ap (λ u. passing_code (load_word a0 frame_register list_offset
    ++ one u (immediate Imm.Add a0 a0 (argument_at own 0))
    (far (λ r d. I.Immediate Imm.Add a0 r d) a0 (argument_at own 0))) (signed_loaded a1 x.level own)
    (signed_loaded u1 x.level own) place count n) (le-leb (24 * own + 4 * 0) 2047 (omega (arith, near)))
  where
    one : Bool → Item → Code → Code
    one q near' far' = cond q (near' ∷ []) far'

    far : (Register → ℤ → Instr) → Register → ℤ → Code
    far instruction r z =
        Plain (I.LoadUpper far_register (upper_part (word z)))
        ∷ add far_register far_register r ∷ Plain (instruction far_register (lower_part (word z))) ∷ []

    joined :
        (first num put ask last : Code) →
        (first ++ (num ++ (put ++ ask))) ++ last ≡ first ++ (num ++ (put ++ (ask ++ last)))
    joined first num put ask last =
        append_assoc first (num ++ (put ++ ask)) last
        ∙ ap (λ u. first ++ u) (append_assoc num (put ++ ask) last)
        ∙ ap (λ u. first ++ (num ++ u)) (append_assoc put ask last)

-- ---- what it means

holds_at :
    {k : Block} {numbers : ℕ → ℕ} {p : Point} (x : Spot) (is : IsParameter k x) → IsAmong k numbers p →
    (h : P.Holds p.state x) × (h.serial ≡ is.serial)
holds_at {p = p} x is o =
    let on : LivesOn is.living (living_of p.state.living is.serial) =
    o.later.remains.living is.serial is.living is.lives in
    let g = on.there.generation in (
      record {
        serial = is.serial;
        stands =
            ap (λ xs. binding_in (ancestor xs (newest_height xs) x.level) x.index) o.later.activations ∙ is.binding;
        values = g.values;
        living = on.there;
        lives = on.lives;
        generation = generation_is g (on.shape ∙ is.shape) (o.stands.lives.extents is.serial on.there on.lives);
      },
      refl,
    )

passed_means :
    (around : Around) {s : State} (x : Spot) (acts : ℕ) (h : P.Holds s x) →
    V.argument around (Y.ByReference (parameter x)) acts s
    ≡ Normal (V.EvaluatedArgument (PassedName (VariableName h.serial) parameter_shape)) s
unfolding V.argument give ◌>>=◌
passed_means around x acts h =
    ap (λ flow. flow_on acts flow (λ d. give (V.EvaluatedArgument (PassedName d.name d.generation.shape))))
    (P.designated_is around acts h)

-- ---- where its name stands

found :
    {k : Block} {x : Spot} {numbers : ℕ → ℕ} {p : Point} (is : IsParameter k x) → IsAmong k numbers p →
    Finds k.call.surroundings k.call.code p (name_loaded is.place) is.serial is.signature
found {k} {x} {numbers} {p} is o =
    let w = k.call.surroundings in
    let on = o.later.remains.living is.serial is.living is.lives in
    let y = lying is o in
    let high = y.list.high in
    let room = y.list.room in
    let near = is.near in
    let under = is.under in
    record {
      from = part_of is;
      low = omega (arith, high);
      inside = omega (arith, room, near);
      there = λ b m bytes stands.
          let l = words_at is o b m stands.frames in
          let place5 : word_place is.caller (is.last + 5) ≡ part_of is = omega (arith, high, under) in
          let place4 : word_place is.caller (is.last + 4) ≡ part_of is + 4 = omega (arith, high, under) in
          let place3 : word_place is.caller (is.last + 3) ≡ part_of is + 8 = omega (arith, high, under) in
          let place2 : word_place is.caller (is.last + 2) ≡ part_of is + 12 = omega (arith, high, under) in
          record {
            kind = ap (load 4 m) (sym place5) ∙ l.kind;
            second = ap (load 4 m) (sym place4) ∙ l.second;
            low = ap (load 4 m) (sym place3) ∙ l.low;
            high = ap (load 4 m) (sym place2) ∙ l.high;
          };
      comes = λ h c f l there. name_comes is o h c f l there;
      living = on.there;
      lives = on.lives;
      shape = on.shape ∙ is.shape;
      numbered = shapes_remain o.later.remains is.signature parameter_shape is.numbered;
      number = is.number;
      small' = is.small;
    }

-- the number of its signature stands in the list, too
sign_comes :
    {k : Block} {x : Spot} {numbers numbers' : ℕ → ℕ} {p : Point} {i : ℕ} (is : IsParameter k x) →
    IsAmong k numbers p → (h : IsFrame (frame_under k.call.surroundings.parts p.control.layers)) (c : ℕ) (f : Family) →
    Linked k.call.surroundings.links k.call.code i (signed_loaded a1 x.level is.place) →
    ((b : Base) → At b i (Known (point_ground k.call.surroundings p h) (services_of p) numbers' (λ j. 0)
    (λ b'. (10, part_of is) ∷ []) b) (f b)) →
    Reach k.call.code c f (services_of p) (c + size_of (signed_loaded a1 x.level is.place)) (services_of p)
    (λ b y. At b (i + size_of (signed_loaded a1 x.level is.place)) (Known (point_ground k.call.surroundings p h)
    (services_of p) numbers' (λ j. 0) (number_regs (part_of is) is.signature) b) y)
sign_comes {k} {x} {p = p} is o h c f l there =
    let w = k.call.surroundings in
    let few = is.few in
    let y = lying is o in
    let near = is.near in
    let under = is.under in
    let high = y.list.high in
    let at = is.at in
    let n = 24 * is.place + 4 * 4 in
    let first = load_word a1 frame_register (pos (list_place x.level)) in
    let second = load_word a1 a1 (argument_at is.place 4) in
    let size = size_append first second in
    let place1 : word_place is.caller (is.last + 1) ≡ at + n = omega (arith, high, under) in
    let r1 = load_piece {t = λ j. 0} {rs = λ b'. (10, part_of is) ∷ []} c f a1 (pos (list_place x.level))
    (frame_under w.parts p.control.layers + list_place x.level) (λ b. b.at + at)
    (word_in (frame_under w.parts p.control.layers) (list_place x.level) h (omega arith) (omega (arith, few)))
    (λ b m stands.
    ap (λ j. load 4 m (j + list_place x.level)) (frame_same is o)
    ∙ ap (λ j. load 4 m (is.layer.at + list_place j)) (sym is.level)
    ∙ (words_at is o b m stands.frames).address)
    (record { reserved_stay = λ z u. refl; known_stay = λ b z u q. q; set = λ z u. refl })
    (record { reserved_stay = λ z u. refl; known_stay = λ b z u q. q; set = λ z u. refl })
    (front_of first second l) there in
    let r2 = load_own {t = λ j. 0} {rs = λ b'. (10, part_of is) ∷ []} (c + size_of first) (reached r1) a1 Load.Word
    (argument_at is.place 4) at (at + n) (λ b. is.signature) (word_in at n y.list (omega arith) (omega (arith, near)))
    (inside_memory at y.list) (λ z u. refl)
    (λ b m stands. ap (load 4 m) (sym place1) ∙ (words_at is o b m stands.frames).number)
    (record { reserved_stay = λ z u. refl; known_stay = λ b z u q. q; set = λ z u. refl })
    (record { reserved_stay = λ z u. refl; known_stay = λ b z u q. q; set = λ z u. refl })
    (back_of first second l) (reached_holds r1) in
    reach_moved (omega (arith, size)) (omega (arith, size)) (reach_then r1 r2)

again_comes :
    {k : Block} {x : Spot} {numbers numbers' : ℕ → ℕ} {p : Point} {i : ℕ} (is : IsParameter k x) →
    IsAmong k numbers p → (h : IsFrame (frame_under k.call.surroundings.parts p.control.layers)) (c : ℕ) (f : Family) →
    Linked k.call.surroundings.links k.call.code i (signed_loaded u1 x.level is.place) →
    ((b : Base) → At b i (Known (point_ground k.call.surroundings p h) (services_of p) numbers' (λ j. 0)
    answered_regs b) (f b)) →
    Reach k.call.code c f (services_of p) (c + size_of (signed_loaded u1 x.level is.place)) (services_of p)
    (λ b y. At b (i + size_of (signed_loaded u1 x.level is.place)) (Known (point_ground k.call.surroundings p h)
    (services_of p) numbers' (λ j. 0) (λ b'. (6, is.signature) ∷ answered_regs b') b) y)
again_comes {k} {x} {p = p} is o h c f l there =
    let w = k.call.surroundings in
    let few = is.few in
    let y = lying is o in
    let near = is.near in
    let under = is.under in
    let high = y.list.high in
    let at = is.at in
    let n = 24 * is.place + 4 * 4 in
    let first = load_word u1 frame_register (pos (list_place x.level)) in
    let second = load_word u1 u1 (argument_at is.place 4) in
    let size = size_append first second in
    let place1 : word_place is.caller (is.last + 1) ≡ at + n = omega (arith, high, under) in
    let r1 = load_piece {t = λ j. 0} {rs = answered_regs} c f u1 (pos (list_place x.level))
    (frame_under w.parts p.control.layers + list_place x.level) (λ b. b.at + at)
    (word_in (frame_under w.parts p.control.layers) (list_place x.level) h (omega arith) (omega (arith, few)))
    (λ b m stands.
    ap (λ j. load 4 m (j + list_place x.level)) (frame_same is o)
    ∙ ap (λ j. load 4 m (is.layer.at + list_place j)) (sym is.level)
    ∙ (words_at is o b m stands.frames).address)
    (record { reserved_stay = λ z u. refl; known_stay = λ b z u q. q; set = λ z u. refl })
    (record { reserved_stay = λ z u. refl; known_stay = λ b z u q. q; set = λ z u. refl })
    (front_of first second l) there in
    let r2 = load_own {t = λ j. 0} {rs = answered_regs} (c + size_of first) (reached r1) u1 Load.Word
    (argument_at is.place 4) at (at + n) (λ b. is.signature) (word_in at n y.list (omega arith) (omega (arith, near)))
    (inside_memory at y.list) (λ z u. refl)
    (λ b m stands. ap (load 4 m) (sym place1) ∙ (words_at is o b m stands.frames).number)
    (record { reserved_stay = λ z u. refl; known_stay = λ b z u q. q; set = λ z u. refl })
    (record { reserved_stay = λ z u. refl; known_stay = λ b z u q. q; set = λ z u. refl })
    (back_of first second l) (reached_holds r1) in
    reach_moved (omega (arith, size)) (omega (arith, size)) (reach_then r1 r2)

-- ---- the whole

found_told :
    (k : Setting) {x : Spot} {φ : Layer} {φs : List Layer} {numbers : ℕ → ℕ} {told : Told} {p : Point} (told' : Told) →
    (newest : k.block.first.control.layers ≡ φ ∷ φs) (is : IsParameter k.block x) →
    IsAmong (telling told φ φs k.block) numbers p →
    (f : Finds k.block.call.surroundings k.block.call.code (with_list told' φ φs p) (name_loaded is.place) is.serial
    is.signature) × (f.from ≡ part_of is)
unfolding parameter_told found
found_told k {x} {φ} {φs} {numbers} told' newest is o =
    let is' = parameter_told k.block φ φs told' newest x is in
    (found {k = telling told' φ φs k.block} {numbers = numbers} is' (told_again k told' newest o), refl)

signs_told :
    (k : Setting) {x : Spot} {φ : Layer} {φs : List Layer} {numbers : ℕ → ℕ} {told : Told} {p : Point} →
    (newest : k.block.first.control.layers ≡ φ ∷ φs) (is : IsParameter k.block x) →
    IsAmong (telling told φ φs k.block) numbers p →
    Signs k.block.call.surroundings k.block.call.code p φ φs (signed_loaded a1 x.level is.place)
    (signed_loaded u1 x.level is.place) (part_of is) is.signature
unfolding parameter_told
signs_told k {x} {φ} {φs} {numbers} newest is o =
    record {
      comes = λ told' h c f l there.
          sign_comes {k = telling told' φ φs k.block} {numbers = numbers}
          (parameter_told k.block φ φs told' newest x is) (told_again k told' newest o) h c f l there;
      again = λ told' h c f l there.
          again_comes {k = telling told' φ φs k.block} {numbers = numbers}
          (parameter_told k.block φ φs told' newest x is) (told_again k told' newest o) h c f l there;
    }

pub parameters_passed :
    (k : Setting) (x : Spot) (φ : Layer) (φs : List Layer) → IsBegun k.block →
    k.block.first.control.layers ≡ φ ∷ φs → (is : IsParameter k.block x) →
    Passes k φ φs (parameter_of x) is.serial is.signature
unfolding parameter_told
parameters_passed k x φ φs begun newest is =
    record {
      comes = λ told p numbers taken all place count n last credits index f o part' l there.
          let w = k.block.call.surroundings in
          let code = k.block.call.code in
          let o' = told_again k told newest o in
          let here = o.later.layers in
          let eq = coded k.block.environment taken all place count n x is.place is.declared is.numbered_so is.near
          is.own in
          let whole = passing_code (name_loaded is.place) (signed_loaded a1 x.level is.place)
          (signed_loaded u1 x.level is.place) place count n in
          let l' = subst (Linked w.links code index) eq l in
          let s = found_told k {x = x} {numbers = numbers} told newest is o in
          let signs = subst (λ from. Signs w code p φ φs (signed_loaded a1 x.level is.place)
          (signed_loaded u1 x.level is.place) from is.signature) (sym s.1)
          (signs_told k {x = x} {numbers = numbers} newest is o) in
          let r = name_passed p φ φs told place count n last credits index f (o'.stands, o'.image) s.0 signs part' l'
          (λ b. told_itself (with_waits told φ ∷ φs) here (there b)) in
          subst (λ c. Reach code credits f (services_of p) (credits + size_of c)
          (services_of (with_list (name_told last is.serial is.signature 0 told) φ φs p))
          (λ b y. IsIn w (with_list (name_told last is.serial is.signature 0 told) φ φs p) numbers (index + size_of c) b
          y)) (sym eq)
          (subst (λ v. Reach code credits f v (credits + size_of whole)
          (services_of (with_list (name_told last is.serial is.signature 0 told) φ φs p))
          (λ b y. IsIn w (with_list (name_told last is.serial is.signature 0 told) φ φs p) numbers
          (index + size_of whole) b y))
          (ap (λ ls. services_of (layered ls p)) (sym here)) r);
      means = λ told p numbers o.
          let h = holds_at {k = telling told φ φs k.block} x (parameter_told k.block φ φs told newest x is) o in
          passed_means k.around x k.block.call.surroundings.acts h.0
          ∙ ap (λ s. Normal (V.EvaluatedArgument (PassedName (VariableName s) parameter_shape)) p.state) h.1;
    }
