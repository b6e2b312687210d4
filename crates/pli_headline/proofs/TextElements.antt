-- Elements of arrays of texts in the code, for any ground: their address comes into a register, from a frame of any level, and the text
-- there is pushed, or the top text is stored there.
use Rattle.std.proofs.Common.{◌≡◌, ℕ, suc, ◌+◌, ◌*◌, ◌%◌, ◌^◌, ◌<◌, ◌≤◌, List, [], ◌∷◌, ◌++◌, length, map, None, Bool, true, false, refl, sym, ap, ◌∙◌, subst, arith, lit<}
use Rattle.std.specs.Prelude.{ℤ, pos, cond, ◌&&◌, ◌==◌, if◌then◌else◌}
use Rattle.std.proofs.lemmas.Bool.{eqb-true}
use Rattle.std.proofs.Math.Nat.{le-max_right}
use Rattle.rv_meaning.specs.declared.instr.Instr.{Instr}
use Rattle.rv_meaning.specs.declared.instr.Register.{Register}
use Rattle.rv_meaning.specs.declared.instr.RegisterOp.TheVariants as Op
use Rattle.rv_meaning.specs.declared.instr.ShiftOp.TheVariants as Shift
use Rattle.rv_meaning.specs.Words.{sum, shifted_left}
use Rattle.rv_meaning.specs.Machine.{memory_size}
use Rattle.pli_typing.specs.Signatures.{Bounds, element_count}
use Rattle.pli_typing.specs.TypedTree as Y
use Rattle.pli_language.specs.Tree as T
use Rattle.pli_meaning.specs.BasicValues.{BasicText}
use Rattle.pli_meaning.specs.Contents.{text_in, is_within, element_place}
use Rattle.pli_meaning.specs.StorageState.{State}
use Rattle.pli_meaning.specs.Control.{Flow, Meaning, give, ◌>>=◌}
use Rattle.pli_meaning.specs.Raising as R
use Rattle.pli_meaning.specs.Raising.{Around}
use Rattle.pli_meaning.specs.Evaluating as V
use Rattle.pli_meaning.specs.Placing as P
use Rattle.pli_meaning.specs.Executing as M
use Rattle.pli_serving.specs.Bytes.{with_bytes}
use Rattle.pli_serving.specs.Stored.{kept_bytes}
use Rattle.pli_serving.specs.ServiceState.{Services, TextEntry}
use Rattle.pli_serving.specs.Outcomes.{pushed}
use Rattle.pli_serving.specs.TextServices as W
use Rattle.pli_coding.specs.Registers.{frame_register, a0, u0, u1, u2, u3, u4}
use Rattle.pli_coding.specs.Assembly.{BaseIn, Code, size_of}
use Rattle.pli_coding.specs.Instructions.{shift, registers, add, subtract, plus, number, load_word}
use Rattle.pli_coding.specs.Frames.{has_constant_size, display}
use Rattle.pli_coding.specs.Environments.{Environment, Taken}
use Rattle.pli_coding.specs.Expressions.{given_in, reference_code, subscripts_code, text_code, type_in, address_in}
use Rattle.pli_coding.specs.Storing.{top_stored}
use Rattle.pli_coding.specs.Locating as L
use Rattle.pli_coding.specs.Linking.{Links}
use Rattle.temporary_bounds.specs.WordBounds.{subscripts_words, text_words}
use Rattle.temporary_bounds.specs.Spare.{spare}
use Rattle.pli_headline.specs.ProvedSoFar.{Names, constant_bounds, AreBounds, array_variable, text_leaf}
use Rattle.run_steps.specs.Engine.{Base, address, most_code}
use Rattle.run_steps.proofs.Linking.{size_append}
use Rattle.run_steps.specs.Items.{Linked, At}
use Rattle.run_steps.proofs.Items.{straight}
use Rattle.run_steps.specs.Bodies.{Ground, Known, Free, reserved_are, with'}
use Rattle.run_steps.proofs.Bodies.{frame_is, set_known, constant_piece, load_piece}
use Rattle.run_steps.proofs.Jumps.{front_of, back_of}
use Rattle.run_steps.specs.Temporaries.{Stays, nothing}
use Rattle.run_steps.specs.Reaching.{Reaches}
use Rattle.run_steps.proofs.Reaching.{reach_moved}
use Rattle.pli_headline.proofs.Serving.{Serving}
use Rattle.pli_headline.proofs.Raising.{Routines}
use Rattle.pli_headline.proofs.Acts.{word_is, word_fits}
use Rattle.pli_headline.proofs.Operators.{valued}
use Rattle.pli_headline.proofs.Variables.{whole_part, own, level_of, data_place, type_by}
use Rattle.pli_headline.proofs.ArrayPlaces.{place_inside}
use Rattle.pli_headline.proofs.ArrayMeant.{element, element_meant, checked_by}
use Rattle.pli_headline.proofs.ArrayElements.{IsDeclaredArray, bounds_constant, reached_by, address_by, addressed}
use Rattle.pli_headline.proofs.ArrayExpressions.{AllEvaluate}
use Rattle.pli_headline.proofs.SubscriptTests.{nothing_beside, counted_all}
use Rattle.pli_headline.proofs.Texts.{EvaluatesText}
use Rattle.pli_headline.proofs.TextPlaces.{text_kind_of, text_bytes, TextThere, kind_asked, read_answer, kept_answer, behind_piece, kind_piece, offset_is}
use Rattle.pli_headline.proofs.TextArraysStay.{text_stride, text_within}
use Rattle.pli_headline.proofs.TextArrayMeant.{HoldsTexts, same_text_array, designated_text, text_element_seen, text_element_state, text_element_stored}
use Rattle.run_steps.specs.Reach.{Family, Aims, Comes, Closed, Reach, reached}
use Rattle.run_steps.proofs.Reach.{before_closed, comes_on, onward, reach_then, reached_holds}

-- ---- the code

-- an element's address: the frame, and so many strides behind it
abbrev pub strides_added : (varying : Bool) → (most : ℕ) → Register → Code
strides_added varying most r = L.times_constant (text_stride varying most) ++ add u3 r u4 ∷ []

abbrev pub text_found : Environment → (level : ℕ) → (varying : Bool) → (most : ℕ) → Code
text_found e level varying most = L.frame_found e level u3 ++ strides_added varying most (L.frame_in e level u3)

abbrev pub text_element_code : Environment → Taken → (level : ℕ) → (varying : Bool) → (most : ℕ) → List Bounds → Y.Number → Y.Numbers → Code
text_element_code e t level varying most bs first rest =
    subscripts_code e t (Y.NumberThen first rest)
    ++ (L.subscripts_counted e t 0 (Y.NumberThen first rest) (map constant_bounds bs)
    ++ text_found e level varying most)

pub text_size_constant : (varying : Bool) (most : ℕ) (bs : List Bounds) (initial : List T.InitialItem) → has_constant_size (array_variable (text_leaf varying most) bs initial) ≡ true
text_size_constant false most bs initial = ap (λ q. q && true) (bounds_constant bs)
text_size_constant true most bs initial = ap (λ q. q && true) (bounds_constant bs)

text_stride_is : (varying : Bool) (most : ℕ) (r : Register) (first : Y.Number) (rest : Y.Numbers)
    → L.element_added r (text_leaf varying most) (Y.NumberThen first rest) ≡ strides_added varying most r
text_stride_is false most r first rest = refl
text_stride_is true most r first rest = refl

pub text_element_reached : (e : Environment) (t : Taken) (block : Names) (j : ℕ) (varying : Bool) (most : ℕ) (bs : List Bounds) (first : Y.Number) (rest : Y.Numbers) → IsDeclaredArray e block j (text_leaf varying most) bs → reference_code e t (element block j first rest) ≡ text_element_code e t (level_of block j) varying most bs first rest
text_element_reached e t block j varying most bs first rest declared =
    let xs = Y.NumberThen first rest in
    let type = text_leaf varying most in
    let front = subscripts_code e t xs in
    let counted = L.subscripts_counted e t 0 xs (map constant_bounds bs) in
    let found = L.frame_found e (level_of block j) u3 in
    let r = L.frame_in e (level_of block j) u3 in
    let other = L.found_reached e t t (own block j) whole_part (L.leaf_number e (own block j) 0) xs in
    ap (λ o. front ++ reached_by e t block j xs o) declared.1
    ∙ ap (λ q. front ++ (if q then counted ++ (found ++ L.element_added r type xs) else other))
    (text_size_constant varying most bs declared.0)
    ∙ ap (λ c. front ++ (counted ++ (found ++ c))) (text_stride_is varying most r first rest)

-- what asks a service about an element, behind its address
abbrev pub element_asked : (n place : ℕ) → (varying : Bool) → (most : ℕ) → Code
element_asked n place varying most =
    L.address_offset (record { register = u3; displacement = pos place }) ++ kind_asked n varying most

pushed_by : (varying : Bool) (most place : ℕ) → L.text_pushed (text_leaf varying most) (record { register = u3; displacement = pos place }) ≡ element_asked 20 place varying most
pushed_by false most place = refl
pushed_by true most place = refl

stored_by : (varying : Bool) (most place : ℕ) → L.text_stored (text_leaf varying most) (record { register = u3; displacement = pos place }) ≡ element_asked 27 place varying most
stored_by false most place = refl
stored_by true most place = refl

pub text_element_pushed : (e : Environment) (t : Taken) (block : Names) (j : ℕ) (varying : Bool) (most : ℕ) (bs : List Bounds) (first : Y.Number) (rest : Y.Numbers) → IsDeclaredArray e block j (text_leaf varying most) bs → text_code e t (Y.TextIn (element block j first rest)) ≡ text_element_code e t (level_of block j) varying most bs first rest ++ element_asked 20 (data_place e block j) varying most
text_element_pushed e t block j varying most bs first rest declared =
    let r = element block j first rest in
    let place = data_place e block j in
    let type = text_leaf varying most in
    let front = text_element_code e t (level_of block j) varying most bs first rest in
    ap (λ c. c ++ L.text_pushed (type_in e r) (address_in e r)) (text_element_reached e t block j varying most bs first rest declared)
    ∙ ap (λ o. front ++ L.text_pushed (type_by o) (address_by e block j o)) declared.1
    ∙ ap (λ q. front ++ L.text_pushed type (record { register = u3; displacement = pos (if q then place else 0) })) (text_size_constant varying most bs declared.0)
    ∙ ap (λ c. front ++ c) (pushed_by varying most place)

pub text_element_kept : (e : Environment) (t : Taken) (block : Names) (j : ℕ) (varying : Bool) (most : ℕ) (bs : List Bounds) (first : Y.Number) (rest : Y.Numbers) → IsDeclaredArray e block j (text_leaf varying most) bs → top_stored e t (element block j first rest) ≡ text_element_code e t (level_of block j) varying most bs first rest ++ element_asked 27 (data_place e block j) varying most
text_element_kept e t block j varying most bs first rest declared =
    let r = element block j first rest in
    let place = data_place e block j in
    let type = text_leaf varying most in
    let front = text_element_code e t (level_of block j) varying most bs first rest in
    ap (λ c. c ++ L.text_stored (type_in e r) (address_in e r)) (text_element_reached e t block j varying most bs first rest declared)
    ∙ ap (λ o. front ++ L.text_stored (type_by o) (address_by e block j o)) declared.1
    ∙ ap (λ q. front ++ L.text_stored type (record { register = u3; displacement = pos (if q then place else 0) })) (text_size_constant varying most bs declared.0)
    ∙ ap (λ c. front ++ c) (stored_by varying most place)

-- ---- the address

shifted_is : (p n : ℕ) → n ≡ 4 → p * n < 2 ^ 32 → shifted_left p 2 ≡ p * n
shifted_is p n e small' =
    let f : p * n ≡ p * 4 = ap (λ u. p * u) e in
    omega (arith, f, small')

times_is : (x y p n : ℕ) → x ≡ p → y ≡ n → p * n < 2 ^ 32 → x * y % 2 ^ 32 ≡ p * n
times_is x y p n e f small' = ap (λ u. u * y % 2 ^ 32) e ∙ ap (λ u. p * u % 2 ^ 32) f ∙ omega (arith, small')

-- the place in u1 becomes a distance in u4
times_by : (q : Bool) {links : Links} {code : List Instr} {i : ℕ} {g : Ground} {v : Services} {h t : ℕ → ℕ} {ys :
    Base → List (ℕ × ℕ)} (c : ℕ) (f : Family) (p n : ℕ) → (n == 4) ≡ q → n < 2 ^ 31 → p * n < 2 ^ 32 → Free ys 7
    → Free ys 29
    → Linked links code i (cond q (shift Shift.Left u4 u1 2 ∷ []) (number u2 n ++ registers Op.Multiply u4 u1 u2
    ∷ [])) → ((b : Base) → At b i (Known g v h t (with' 6 (λ b'. p) ys) b) (f b))
    → Reach code c f v
    (c + size_of (cond q (shift Shift.Left u4 u1 2 ∷ []) (number u2 n ++ registers Op.Multiply u4 u1 u2 ∷ []))) v
    (λ b w. At b
    (i + size_of (cond q (shift Shift.Left u4 u1 2 ∷ []) (number u2 n ++ registers Op.Multiply u4 u1 u2 ∷ [])))
    (Known g v h t (with' 29 (λ b'. p * n) ys) b) w)
times_by true {g = g} {v = v} {h = h} {t = t} {ys = ys} c f p n e few small' free7 free29 l at =
    straight c f v v (λ b. Known g v h t (with' 29 (λ b'. p * n) ys) b) l (omega arith) (λ b. (at b).pc)
    (λ b.
    let k = (at b).holds in
    set_known (f b) 29 (shifted_left ((f b).machine.registers 6) 2) _ (λ b'. p * n) free29
    (ap (λ u. shifted_left u 2) k.regs.0 ∙ shifted_is p n (eqb-true n 4 e) small') (record {
      body = k.body;
      regs =
          k.regs.1;
    }))
times_by false {i = i} {g = g} {v = v} {h = h} {t = t} {ys = ys} c f p n e few small' free7 free29 l at =
    let first = number u2 n in
    let last = registers Op.Multiply u4 u1 u2 ∷ [] in
    let size = size_append first last in
    let free : Free (with' 6 (λ b'. p) ys) 7 = record {
      reserved_stay = free7.reserved_stay;
      known_stay =
          λ b y u k. (k.0, free7.known_stay b y u k.1);
      set = λ y u. refl;
    } in
    let r1 = constant_piece c f u2 (pos n) (word_fits n few) free (front_of first last l) at in
    let r2 = straight (c + size_of first) (reached r1) v v (λ b. Known g v h t (with' 29 (λ b'. p * n) ys) b) (back_of first last l) (omega arith) (λ b. (reached_holds r1 b).pc)
    (λ b.
    let k = (reached_holds r1 b).holds in
    let x = (reached r1 b).machine.registers in
    set_known (reached r1 b) 29 (x 6 * x 7 % 2 ^ 32) _ (λ b'. p * n) free29
    (times_is (x 6) (x 7) p n k.regs.1.0 (k.regs.0 ∙ word_is n few) small') (record {
      body = k.body;
      regs =
          k.regs.1.1;
    })) in
    reach_moved (omega (arith, size)) (omega (arith, size)) (reach_then r1 r2)

behind_address : (at base d : ℕ) → at + 2 ^ 24 ≤ 2 ^ 32 → base + d < 2 ^ 24 → sum (at + base) d ≡ at + (base + d)
behind_address at base d valid few = omega (arith, valid, few)

-- from the running frame, or from one that was found
strides_piece : (q : Bool) {links : Links} {code : List Instr} {i : ℕ} {g : Ground} {v : Services} {h t :
    ℕ → ℕ} (varying : Bool) (most : ℕ) (c : ℕ) (f : Family) (base p : ℕ) → (q ≡ true → g.frame ≡ base)
    → base + p * text_stride varying most < memory_size → text_stride varying most < 2 ^ 31
    → Linked links code i (strides_added varying most (cond q frame_register u3))
    → ((b : Base) → At b i (Known g v h t (with' 6 (λ b'. p) (λ b'. cond q [] ((28, b'.at + base) ∷ []))) b) (f b))
    → Reach code c f v (c + size_of (strides_added varying most (cond q frame_register u3))) v
    (λ b w. At b (i + size_of (strides_added varying most (cond q frame_register u3)))
    (Known g v h t (addressed (λ b'. b'.at + (base + p * text_stride varying most))) b) w)
strides_piece true {i = i} {g = g} {v = v} {h = h} {t = t} varying most c f base p frame few size l at =
    let n = text_stride varying most in
    let first = L.times_constant n in
    let last = add u3 frame_register u4 ∷ [] in
    let s = size_append first last in
    let free7 : Free nothing 7 = record { reserved_stay = λ y u. refl; known_stay = λ b y u k. k; set = λ y u. refl } in
    let free29 : Free nothing 29 = record { reserved_stay = λ y u. refl; known_stay = λ b y u k. k; set = λ y u. refl } in
    let r1 = times_by (n == 4) c f p n refl size (omega (arith, few)) free7 free29 (front_of first last l) at in
    let r2 = straight (c + size_of first) (reached r1) v v (λ b. Known g v h t (addressed (λ b'. b'.at + (base + p * n))) b) (back_of first last l) (omega arith) (λ b. (reached_holds r1 b).pc)
    (λ b.
    let o = (reached_holds r1 b).holds in
    let w = (reached r1 b).machine.registers in
    record {
      body = record { services = o.body.services; registers = o.body.registers; bytes = o.body.bytes; memory = o.body.memory };
      regs = (
        ap (λ u. sum u (w 29)) (frame_is o.body ∙ ap (λ u. b.at + u) (frame refl)) ∙ ap (λ u. sum (b.at + base) u) o.regs.0 ∙ behind_address b.at base (p * n) b.valid.1 few,
        tt,
      );
    }) in
    reach_moved (omega (arith, s)) (omega (arith, s)) (reach_then r1 r2)
strides_piece false {i = i} {g = g} {v = v} {h = h} {t = t} varying most c f base p frame few size l at =
    let n = text_stride varying most in
    let first = L.times_constant n in
    let last = add u3 u3 u4 ∷ [] in
    let s = size_append first last in
    let ys : Base → List (ℕ × ℕ) = λ b. (28, b.at + base) ∷ [] in
    let free7 : Free ys 7 = record { reserved_stay = λ y u. refl; known_stay = λ b y u k. k; set = λ y u. refl } in
    let free29 : Free ys 29 = record { reserved_stay = λ y u. refl; known_stay = λ b y u k. k; set = λ y u. refl } in
    let r1 = times_by (n == 4) c f p n refl size (omega (arith, few)) free7 free29 (front_of first last l) at in
    let r2 = straight (c + size_of first) (reached r1) v v (λ b. Known g v h t (addressed (λ b'. b'.at + (base + p * n))) b) (back_of first last l) (omega arith) (λ b. (reached_holds r1 b).pc)
    (λ b.
    let o = (reached_holds r1 b).holds in
    let w = (reached r1 b).machine.registers in
    record {
      body = record { services = o.body.services; registers = o.body.registers; bytes = o.body.bytes; memory = o.body.memory };
      regs = (
        ap (λ u. sum u (w 29)) o.regs.1.0 ∙ ap (λ u. sum (b.at + base) u) o.regs.0 ∙ behind_address b.at base (p * n) b.valid.1 few,
        tt,
      );
    }) in
    reach_moved (omega (arith, s)) (omega (arith, s)) (reach_then r1 r2)

text_address_piece : (q : Bool) (level : ℕ) {links : Links} {code : List Instr} {i : ℕ} {g : Ground} {v :
    Services} {h t : ℕ → ℕ} (varying : Bool) (most : ℕ) (c : ℕ) (f : Family) (base p : ℕ) → Reaches q level g base
    → base + p * text_stride varying most < memory_size → text_stride varying most < 2 ^ 31
    → Linked links code i (cond q [] (load_word u3 frame_register (display level))
    ++ strides_added varying most (cond q frame_register u3))
    → ((b : Base) → At b i (Known g v h t (with' 6 (λ b'. p) nothing) b) (f b))
    → Reach code c f v
    (c + size_of (cond q [] (load_word u3 frame_register (display level))
    ++ strides_added varying most (cond q frame_register u3))) v
    (λ b w. At b (i + size_of (cond q [] (load_word u3 frame_register (display level))
    ++ strides_added varying most (cond q frame_register u3)))
    (Known g v h t (addressed (λ b'. b'.at + (base + p * text_stride varying most))) b) w)
text_address_piece true level varying most c f base p reaches few size l at =
    strides_piece true varying most c f base p (λ e. reaches) few size l at
text_address_piece false level {i = i} {g = g} {v = v} {h = h} {t = t} varying most c f base p reaches few size l at =
    let first = load_word u3 frame_register (display level) in
    let last = strides_added varying most u3 in
    let s = size_append first last in
    let r1 = load_piece c f u3 (display level) (g.frame + (144 + 4 * level)) (λ b. b.at + base) reaches.0 (λ b m k. reaches.1 t b m k)
    (record { reserved_stay = λ y u. refl; known_stay = λ b y u k. k; set = λ y u. refl })
    (record { reserved_stay = λ y u. refl; known_stay = λ b y u k. k; set = λ y u. refl })
    (front_of first last l) at in
    let r2 = strides_piece false varying most (c + size_of first) (reached r1) base p (λ e. absurd (cc e)) few size (back_of first last l)
    (λ b. let o = reached_holds r1 b in record { pc = o.pc; holds = record { body = o.holds.body; regs = (o.holds.regs.1.0, (o.holds.regs.0, tt)) } }) in
    reach_moved (omega (arith, s)) (omega (arith, s)) (reach_then r1 r2)

-- ---- an array around an expression

-- where its elements stand, in the meaning and in memory
pub record TextArrayScope (g : Ground) (e : Environment) (s : State) (block : Names) (j : ℕ) (varying : Bool) (most : ℕ) (bs : List Bounds) (texts : ℕ → List ℕ) : Type 0 where
  pub declared : IsDeclaredArray e block j (text_leaf varying most) bs
  pub bounds : AreBounds bs
  pub few : element_count bs ≤ 2 ^ 20
  pub some : 1 ≤ most
  pub short : most ≤ 1024
  pub serial : ℕ
  pub holds : HoldsTexts s block j serial varying most bs texts
  pub base : ℕ
  pub high : 4 * most_code ≤ base
  pub within : base + element_count bs * text_stride varying most + data_place e block j ≤ memory_size
  pub reach : Reaches (level_of block j == e.level) (level_of block j) g base
  pub reads : (p : ℕ) → p < element_count bs → (t : ℕ → ℕ) (b : Base) (m : List ℕ) → g.memory t b m → TextThere varying most (base + p * text_stride varying most + data_place e block j) m (texts p)

stride_few : (varying : Bool) (most : ℕ) → most ≤ 1024 → text_stride varying most < 2 ^ 31
stride_few false most h = omega (arith, h)
stride_few true most h = omega (arith, h)

bytes_some : (varying : Bool) (most p count base place : ℕ) → p < count → base + count * text_stride varying most + place ≤ memory_size → base + p * text_stride varying most + place + text_bytes varying most ≤ memory_size
bytes_some varying most p count base place below within =
    let r = text_within varying most p count below in
    omega (arith, r, within)

-- an element of it is found: its address comes into u3, or the run ends
pub text_element_piece : {links : Links} {code : List Instr} {i : ℕ} {g : Ground} {v : Services} {h t : ℕ → ℕ} {s :
    State} {aims : Aims V.Designated} {e : Environment} {block : Names} {j : ℕ} {varying : Bool} {most : ℕ} {bs :
    List Bounds} {texts : ℕ → List ℕ} (closed : Closed code aims) (routines : Routines links code) (scope :
    TextArrayScope g e s block j varying most bs texts) (f : Family) (around : Around) (taken : Taken) (k :
    ℕ) (first : Y.Number) (rest : Y.Numbers) → AllEvaluate links code g v s k e around (Y.NumberThen first rest)
    → suc (given_in rest) ≡ length bs → taken.words + subscripts_words (Y.NumberThen first rest) ≤ g.words + spare taken
    → Serving k s v around.line
    → Linked links code i (text_element_code e taken (level_of block j) varying most bs first rest)
    → ((b : Base) → At b i (Known g v h t nothing b) (f b))
    → ((is : List ℤ) (f' : Family) (h' t' : ℕ → ℕ) → is_within bs is ≡ true → Stays taken h t h' t'
    → ((b : Base) → At b (i + size_of (text_element_code e taken (level_of block j) varying most bs first rest))
    (Known g v h' t' (addressed (λ b'. b'.at + (scope.base + element_place bs is * text_stride varying most))) b)
    (f' b)) → aims.done (i + size_of (text_element_code e taken (level_of block j) varying most bs first rest)) f' v
    (designated_text varying most bs scope.serial scope.holds.values is) s)
    → Comes code i f v aims (V.designated around (element block j first rest) k s)
unfolding give
text_element_piece {code = code} {i = i} {g = g} {v = v} {s = s} {aims = aims} {e = e} {block = block} {j =
    j} {varying = varying} {most = most} {bs = bs} closed routines scope f around taken k first rest all same room
    serving l at goal =
    let xs = Y.NumberThen first rest in
    let p1 = subscripts_code e taken xs in
    let p2 = L.subscripts_counted e taken 0 xs (map constant_bounds bs) in
    let p3 = text_found e (level_of block j) varying most in
    let l2 = back_of p1 (p2 ++ p3) l in
    let e1 = size_append p1 (p2 ++ p3) in
    let e2 = size_append p2 p3 in
    let there : i + size_of p1 + size_of p2 + size_of p3 ≡ i + size_of (p1 ++ (p2 ++ p3)) = omega (arith, e1, e2) in
    let designated : List ℤ → V.Designated = λ is. designated_text varying most bs scope.serial scope.holds.values is in
    let checks : List ℤ → Meaning V.Designated = λ is. V.variable_designated around (own block j) None whole_part is in
    subst (Comes code i f v aims) (sym (element_meant around block j first rest k s))
    (comes_on k (V.numbers around xs k s) checks
    (all.does (before_closed k checks closed) f taken room (front_of p1 (p2 ++ p3) l) at
    (λ is f1 h1 t1 wide many stays gives at1.
    subst (Comes code (i + size_of p1) f1 v aims) (sym (checked_by s block j around is k (text_leaf varying most) bs scope.serial scope.holds.values (same_text_array varying most bs) scope.holds.stands scope.holds.lives (many ∙ same)))
    (comes_on k (R.demanded around 102 (is_within bs is) k s) (λ u. give (designated is))
    (counted_all bs is first rest e (before_closed k (λ u. give (designated is)) closed) routines f1 around taken k
    nothing_beside many (many ∙ same) scope.bounds wide scope.few gives (front_of p2 p3 l2) serving at1
    (λ inside f2 at2.
    let within = bytes_some varying most (element_place bs is) (element_count bs) scope.base (data_place e block j) (place_inside bs is inside) scope.within in
    onward closed (text_address_piece (level_of block j == e.level) (level_of block j) varying most (i + size_of p1 + size_of p2) f2 scope.base (element_place bs is) scope.reach (omega (arith, within)) (stride_few varying most scope.short) (back_of p2 p3 l2) at2)
    (λ f3 at3.
    record {
      to = λ early.
          subst (λ u. aims.done u f3 v (designated is) s) (sym there)
          (goal is f3 h1 t1 inside stays (λ b. record { pc = (at3 b).pc ∙ ap (address b) there; holds = (at3 b).holds }));
    })))))))

-- its offset comes into a0
text_offset_piece : {X : Type 0} {links : Links} {code : List Instr} {i : ℕ} {g : Ground} {v : Services} {h t : ℕ → ℕ} {aims : Aims X} {flow : Flow X} (closed : Closed code aims) (f : Family) (base place : ℕ) → base + place < memory_size → Linked links code i (L.address_offset (record { register = u3; displacement = pos place })) → ((b : Base) → At b i (Known g v h t (addressed (λ b'. b'.at + base)) b) (f b)) → ((f' : Family) → ((b : Base) → At b (i + size_of (L.address_offset (record { register = u3; displacement = pos place }))) (Known g v h t (valued (base + place)) b) (f' b)) → Comes code (i + size_of (L.address_offset (record { register = u3; displacement = pos place }))) f' v aims flow) → Comes code i f v aims flow
text_offset_piece {code = code} {i = i} {g = g} {v = v} {h = h} {t = t} {aims = aims} {flow = flow} closed f base place inside l at next' =
    let front = BaseIn u0 ∷ subtract a0 u3 u0 ∷ [] in
    let last = plus a0 a0 (pos place) in
    let s = size_append front last in
    let there : i + size_of front + size_of last ≡ i + size_of (front ++ last) = omega (arith, s) in
    onward closed (straight i f v v (λ b. Known g v h t (valued base) b) (front_of front last l) (omega arith) (λ b. (at b).pc)
    (λ b. let o = (at b).holds in let valid = b.valid.1 in (
      refl,
      record {
        body = record { services = o.body.services; registers = o.body.registers; bytes = o.body.bytes; memory = o.body.memory };
        regs = (offset_is _ b.at base o.regs.0 (omega (arith, inside, valid)), tt);
      },
    )))
    (λ f1 at1.
    behind_piece closed f1 base place inside (back_of front last l) at1
    (λ f2 at2.
    subst (λ u. Comes code u f2 v aims flow) (sym there)
    (next' f2 (λ b. record { pc = (at2 b).pc ∙ ap (address b) there; holds = (at2 b).holds }))))

bytes_least : (varying : Bool) (most : ℕ) → 1 ≤ most → 1 ≤ text_bytes varying most
bytes_least false most h = h
bytes_least true most h = omega arith

-- ---- a text is pushed

pub text_element_evaluates : {links : Links} {code : List Instr} {g : Ground} {v : Services} {s : State} {k : ℕ} {e :
    Environment} (around : Around) {block : Names} {j : ℕ} {varying : Bool} {most : ℕ} {bs : List Bounds} {texts :
    ℕ → List ℕ} (routines : Routines links code) (serving : Serving k s v around.line) (scope :
    TextArrayScope g e s block j varying most bs texts) (first : Y.Number) (rest : Y.Numbers)
    → AllEvaluate links code g v s k e around (Y.NumberThen first rest) → suc (given_in rest) ≡ length bs
    → EvaluatesText links code g v s k (text_words (Y.TextIn (element block j first rest)))
    (λ taken. text_code e taken (Y.TextIn (element block j first rest)))
    (V.text around (Y.TextIn (element block j first rest)))
unfolding V.text ◌>>=◌ give
text_element_evaluates {links = links} {code = code} {g = g} {v = v} {s = s} {k = k} {e =
    e} around {block} {j} {varying} {most} {bs} {texts} routines serving scope first rest all same =
    record {
      does = λ {i} {h} {t} {aims} closed f taken room l at goal.
          let r = element block j first rest in
          let xs = Y.NumberThen first rest in
          let place = data_place e block j in
          let a = text_element_code e taken (level_of block j) varying most bs first rest in
          let c1 = L.address_offset (record { register = u3; displacement = pos place }) in
          let c2 = kind_asked 20 varying most in
          let eq = text_element_pushed e taken block j varying most bs first rest scope.declared in
          let l1 = subst (Linked links code i) eq l in
          let l2 = back_of a (c1 ++ c2) l1 in
          let e0 = ap size_of eq in
          let e1 = size_append a (c1 ++ c2) in
          let e2 = size_append c1 c2 in
          let there : i + size_of a + size_of c1 + size_of c2 ≡ i + size_of (text_code e taken (Y.TextIn r)) = omega (arith, e0, e1, e2) in
          let small' = l.small' in
          let enough = le-max_right 0 (0 + subscripts_words xs) in
          let next' : V.Designated → Meaning (List ℕ) = λ d. give (text_in (V.value_in d)) in
          comes_on k (V.designated around r k s) next'
          (text_element_piece (before_closed k next' closed) routines scope f around taken k first rest all same
          (omega (arith, room, enough)) serving (front_of a (c1 ++ c2) l1) at
          (λ is f1 h1 t1 inside stays at1.
          let p = element_place bs is in
          let below = place_inside bs is inside in
          let from = scope.base + p * text_stride varying most in
          let bytes = bytes_some varying most p (element_count bs) scope.base place below scope.within in
          let least = bytes_least varying most scope.some in
          let high = scope.high in
          let text = texts p in
          let v' = pushed (TextEntry text) v in
          let seen' : V.value_in (designated_text varying most bs scope.serial scope.holds.values is) ≡ BasicText text = text_element_seen varying most bs scope.serial scope.holds.values is ∙ scope.holds.value is inside in
          text_offset_piece closed f1 from place (omega (arith, bytes, least)) (front_of c1 c2 l2) at1
          (λ f2 at2.
          kind_piece g v' closed f2 20 (λ c x0 x1 x2 x3 x4. W.push_served c x0 x1 x2) varying most (from + place) (λ m. m) (from + place) most (lit< tt) (λ c u. refl) (omega arith) scope.short (λ b h'. refl)
          (λ b m x3 x4 o. read_answer varying code v m (from + place) most text scope.short (omega (arith, high, small')) bytes (scope.reads p below t1 b m o))
          (λ b m size o. (size, o)) (back_of c1 c2 l2) at2
          (λ f3 at3.
          record {
            to = λ early.
                subst (λ y. aims.done (i + size_of a + size_of c1 + size_of c2) f3 v' (text_in y) s) (sym seen')
                (subst (λ u. aims.done u f3 v' text s) (sym there)
                (goal text f3 h1 t1 (scope.holds.short p below) stays (λ b. record { pc = (at3 b).pc ∙ ap (address b) there; holds = (at3 b).holds })));
          }))));
    }

-- ---- the top text is stored

pub text_element_stored_piece : {links : Links} {code : List Instr} {i : ℕ} {g : Ground} (g' : ℕ → Ground) {v :
    Services} {h t : ℕ → ℕ} {s : State} {aims : Aims (Unit {0})} {e : Environment} {block : Names} {j : ℕ} {varying :
    Bool} {most : ℕ} {bs : List Bounds} {texts : ℕ → List ℕ} (closed : Closed code aims) (routines :
    Routines links code) (scope : TextArrayScope g e s block j varying most bs texts) (f : Family) (around :
    Around) (taken : Taken) (text : List ℕ) (k : ℕ) (first : Y.Number) (rest : Y.Numbers)
    → AllEvaluate links code g (pushed (TextEntry text) v) s k e around (Y.NumberThen first rest)
    → suc (given_in rest) ≡ length bs → taken.words + subscripts_words (Y.NumberThen first rest) ≤ g.words + spare taken
    → Serving k s (pushed (TextEntry text) v) around.line
    → ((p : ℕ) (b : Base) (h' : ℕ → ℕ) → reserved_are b g h' ≡ reserved_are b (g' p) h')
    → ((p : ℕ) → p < element_count bs → (t' : ℕ → ℕ) (b : Base) (m : List ℕ) → length m ≡ memory_size
    → g.memory t' b m
    → (length (with_bytes (kept_bytes (text_kind_of varying most) (BasicText text))
    (scope.base + p * text_stride varying most + data_place e block j) m) ≡ memory_size)
    × (g' p).memory t' b (with_bytes (kept_bytes (text_kind_of varying most) (BasicText text))
    (scope.base + p * text_stride varying most + data_place e block j) m))
    → Linked links code i (top_stored e taken (element block j first rest))
    → ((b : Base) → At b i (Known g (pushed (TextEntry text) v) h t nothing b) (f b))
    → ((is : List ℤ) (f' : Family) (h' t' : ℕ → ℕ) → is_within bs is ≡ true → Stays taken h t h' t'
    → ((b : Base)
    → At b (i + size_of (top_stored e taken (element block j first rest)))
    (Known (g' (element_place bs is)) v h' t' nothing b) (f' b))
    → aims.done (i + size_of (top_stored e taken (element block j first rest))) f' v tt
    (text_element_state s varying most bs scope.serial scope.holds.values is text))
    → Comes code i f (pushed (TextEntry text) v) aims
    (M.assigned around (element block j first rest) (BasicText text) k s)
unfolding M.assigned ◌>>=◌
text_element_stored_piece {links = links} {code = code} {i = i} {g = g} g' {v = v} {s = s} {aims = aims} {e =
    e} {block = block} {j = j} {varying = varying} {most = most} {bs = bs} closed routines scope f around taken text k
    first rest all same room serving alike writes l at goal =
    let r = element block j first rest in
    let place = data_place e block j in
    let a = text_element_code e taken (level_of block j) varying most bs first rest in
    let c1 = L.address_offset (record { register = u3; displacement = pos place }) in
    let c2 = kind_asked 27 varying most in
    let eq = text_element_kept e taken block j varying most bs first rest scope.declared in
    let l1 = subst (Linked links code i) eq l in
    let l2 = back_of a (c1 ++ c2) l1 in
    let e0 = ap size_of eq in
    let e1 = size_append a (c1 ++ c2) in
    let e2 = size_append c1 c2 in
    let there : i + size_of a + size_of c1 + size_of c2 ≡ i + size_of (top_stored e taken r) = omega (arith, e0, e1, e2) in
    let small' = l.small' in
    let next' : V.Designated → Meaning (Unit {0}) = λ d. P.element_stored d (BasicText text) in
    comes_on k (V.designated around r k s) next'
    (text_element_piece (before_closed k next' closed) routines scope f around taken k first rest all same room
    serving (front_of a (c1 ++ c2) l1) at
    (λ is f1 h1 t1 inside stays at1.
    let p = element_place bs is in
    let below = place_inside bs is inside in
    let from = scope.base + p * text_stride varying most in
    let bytes = bytes_some varying most p (element_count bs) scope.base place below scope.within in
    let least = bytes_least varying most scope.some in
    let high = scope.high in
    text_offset_piece closed f1 from place (omega (arith, bytes, least)) (front_of c1 c2 l2) at1
    (λ f2 at2.
    kind_piece (g' p) v closed f2 27 (λ c x0 x1 x2 x3 x4. W.store_served c x0 x1 x2) varying most (from + place) (with_bytes (kept_bytes (text_kind_of varying most) (BasicText text)) (from + place)) (length text) most (lit< tt) (λ c u. refl) (omega arith) scope.short (alike p)
    (λ b m x3 x4 o. kept_answer varying code v m (from + place) most text scope.short (omega (arith, high, small')) bytes)
    (λ b m size o. writes p below t1 b m size o) (back_of c1 c2 l2) at2
    (λ f3 at3.
    subst (Comes code (i + size_of a + size_of c1 + size_of c2) f3 v aims) (sym (text_element_stored varying most bs scope.serial scope.holds.values is text k s))
    (record {
      to = λ early.
          subst (λ u. aims.done u f3 v tt (text_element_state s varying most bs scope.serial scope.holds.values is text)) (sym there)
          (goal is f3 h1 t1 inside stays (λ b. record { pc = (at3 b).pc ∙ ap (address b) there; holds = (at3 b).holds }));
    })))))
