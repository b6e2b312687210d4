-- A number where fewer bits are due: it stays where it fits, else FIXEDOVERFLOW is raised, behind which it is cut.
use Rattle.std.proofs.Common.{◌≡◌, ℕ, ◌+◌, ◌-◌, ◌^◌, ◌<◌, ◌≤◌, List, [], ◌∷◌, ◌++◌, Bool, true, false, refl, sym, ap, ◌∙◌}
use Rattle.std.proofs.Common.{subst, arith}
use Rattle.std.specs.Prelude.{ℤ, cond, max, nat_lt, pos, ◌==◌}
use Rattle.std.proofs.Math.Nat.{le-max_left, le-max_right}
use Rattle.std.proofs.lemmas.Bool.Decides.{nat_tests}
use Rattle.rv_meaning.specs.declared.instr.BranchTest.TheVariants as Test
use Rattle.rv_meaning.specs.declared.instr.ShiftOp.TheVariants as Shift
use Rattle.rv_meaning.specs.Words.{sum, word}
use Rattle.pli_language.specs.declared.condition.Condition.TheVariants as C
use Rattle.pli_typing.specs.TypedTree as Y
use Rattle.pli_meaning.specs.Control.{Flow, Label, Meaning, give, ◌>>=◌, ◌>>◌}
use Rattle.pli_meaning.specs.Evaluating as V
use Rattle.pli_meaning.specs.Numbers.{Gives, Raises, checked, is_of_precision, wrapped}
use Rattle.pli_meaning.specs.Raising as R
use Rattle.pli_serving.specs.ServiceState.{Services}
use Rattle.pli_coding.specs.Arithmetic.{fitted_code, narrowed_code, overflow_raised}
use Rattle.pli_coding.specs.Assembly.{Code, size_of}
use Rattle.pli_coding.specs.Environments.{Taken}
use Rattle.pli_coding.specs.Expressions.{number_code}
use Rattle.pli_coding.specs.Instructions.{move, shift, skip_where}
use Rattle.pli_coding.specs.Registers.{a0, u1}
use Rattle.activation_relation.specs.Layers.{Point, services_of}
use Rattle.run_steps.specs.Bodies.{Known}
use Rattle.run_steps.specs.Engine.{Base}
use Rattle.run_steps.specs.Items.{At, Linked}
use Rattle.run_steps.proofs.Items.{straight}
use Rattle.run_steps.proofs.Jumps.{back_of, front_of, rest_of, skip_passed, skip_taken}
use Rattle.run_steps.proofs.Linking.{size_append}
use Rattle.run_steps.specs.Numbers.{IsWide}
use Rattle.run_steps.proofs.Numbers.{word_small}
use Rattle.run_steps.specs.Reach.{Closed, Comes, Family, before, cost}
use Rattle.run_steps.proofs.Reach.{comes_on, onward, stay}
use Rattle.block_runs.proofs.CallStatements.{comes_map}
use Rattle.block_runs.proofs.PointGrounds.{in_known, point_frame, point_ground}
use Rattle.program_runs.specs.Statements.{Block, IsAmong}
use Rattle.program_runs.proofs.JumpsOut.{jumps_later, jumps_since}
use Rattle.pli_headline.proofs.Scalars.{fewer_bits}
use Rattle.pli_headline.proofs.WordPrecisions.{IsWord, narrowed, narrowed_tested, wide_word}
use Rattle.expression_runs.specs.Laws.{Does}
use Rattle.expression_runs.specs.Values.{Evaluates, HasRegisters, HasWord, OverflowComes, Setting, Stretch, behind}
use Rattle.expression_runs.specs.Values.{in_registers, number_aims, word_aims}
use Rattle.expression_runs.proofs.Words.{IsFurther, frame_of, known_word, valued, word_further, word_here, word_later}
use Rattle.scalar_runs.specs.Fitted.{Fits, Leaves, fitted_aims}
use Rattle.scalar_runs.proofs.Narrowing.{narrowed_word, wrapped_fits}

-- ---- where it goes on

pub fitted_closed :
    (k : Block) (labels : List Label) (precision : ℕ) (x : Stretch) →
    Closed k.call.code (fitted_aims k labels precision x)
fitted_closed k labels precision x =
    record {
      done = λ r z s o. (o.0, word_later r o.1);
      jumped = λ r height label s o. jumps_later r o;
      returned = λ r z s o. absurd o;
    }

pub fitted_further :
    {k : Block} {labels : List Label} {x y : Stretch} {c : ℕ} {f : Family} {v : Services} {flow : Flow ℤ}
    (precision : ℕ) → IsFurther x y → Comes k.call.code c f v (fitted_aims k labels precision x) flow →
    Comes k.call.code c f v (fitted_aims k labels precision y) flow
fitted_further {k} {labels} {x} {y} {flow = flow} precision i o =
    comes_map (fitted_aims k labels precision x) (fitted_aims k labels precision y) refl flow
    (λ c f v z s q. (q.0, word_further i q.1))
    (λ c f v height label s q. jumps_since i.acts q)
    (λ c f v r s q. absurd q)
    o

-- ---- code behind a number in a0

abbrev pub Cuts : Setting → (need precision : ℕ) → (part : Taken → Code) → (ℤ → Meaning ℤ) → Type 0
Cuts k need precision part meaning =
    (p : Point) (numbers : ℕ → ℕ) (taken c index : ℕ) (f : Family) (z : ℤ) (h : frame_of k.block p) →
    IsAmong k.block numbers p → p.control.line ≡ k.around.line → HasRegisters k taken need → IsWide z →
    Linked k.block.call.surroundings.links k.block.call.code index (part (in_registers k.words taken)) →
    c + size_of (part (in_registers k.words taken)) + k.most ≤ cost k.block.call.code →
    ((b : Base) → At b index (Known (point_ground k.block.call.surroundings p h) (services_of p) numbers (λ j. 0)
    (valued (word z)) b) (f b)) →
    Comes k.block.call.code c f (services_of p)
    (fitted_aims k.block k.labels precision (behind p numbers taken c index (part (in_registers k.words taken))))
    (meaning z k.block.call.surroundings.acts p.state)

enough : (k : Setting) (taken m need : ℕ) → m ≤ need → HasRegisters k taken need → HasRegisters k taken m
enough k taken m need few room =
    let most = room.0 in
    (omega (arith, few, most), room.1)

then_fits :
    (k : Setting) (m n need precision : ℕ) (first last : Taken → Code) (meant : Meaning ℤ) (next' : ℤ → Meaning ℤ) →
    m ≤ need → n ≤ need → Evaluates k m first meant → Cuts k n precision last next' →
    Leaves k need precision (λ t. first t ++ last t) (meant >>= next')
unfolding ◌>>=◌
then_fits k m n need precision first last meant next' few_m few_n does cuts p numbers taken c index f o line registers l
    paid there =
    let w = k.block.call.surroundings in
    let code = k.block.call.code in
    let t = in_registers k.words taken in
    let a = first t in
    let d = last t in
    let n1 = size_append a d in
    let goal = fitted_aims k.block k.labels precision (behind p numbers taken c index (a ++ d)) in
    let closed = fitted_closed k.block k.labels precision (behind p numbers taken c index (a ++ d)) in
    comes_on w.acts (meant w.acts p.state) next'
    (comes_map (number_aims k.block k.labels (behind p numbers taken c index a)) (before code goal w.acts next') refl
    (meant w.acts p.state)
    (λ c1 f1 v1 x s1 q1.
    let o1 = q1.1 in
    let p1 = o1.point in
    let since1 = o1.since in
    let h1 = point_frame o1.among.stands o1.among.image in
    subst (λ s. Comes code c1 f1 v1 goal (next' x w.acts s)) (sym o1.state)
    (onward closed o1.reach
    (λ g1 at1.
    fitted_further precision
    (record {
      acts = since1;
      line = o1.line;
      index = omega (arith, n1);
      wanted = omega (arith, n1);
      taken = omega arith;
      stays = λ i less. o1.stays i less;
    })
    (cuts p1 o1.numbers taken (c + size_of a) (index + size_of a) g1 x h1 o1.among (o1.line ∙ line)
    (enough k taken n need few_n registers) q1.0 (back_of a d l) (omega (arith, paid, n1))
    (λ b. known_word k.block h1 (at1 b))))))
    (λ c1 f1 v1 height label s1 q1. q1)
    (λ c1 f1 v1 r s1 q1. absurd q1)
    (does p numbers taken c index f o line (enough k taken m need few_m registers) (front_of a d l)
    (omega (arith, paid, n1)) there))

-- ---- the test

-- what is left of a number beside it
abbrev lowered : (x w : ℕ) → Base → List (ℕ × ℕ)
lowered x w b = (6, x) ∷ (10, w) ∷ []

abbrev over_code : Taken → Code
over_code t = move a0 u1 ∷ overflow_raised t

sum_zero : (y x : ℕ) → y ≡ x → x < 2 ^ 32 → sum y (word (pos 0)) ≡ x
sum_zero y x e h = omega (arith, e, h)

cut_small : (p : ℕ) (z : ℤ) → p ≤ 31 → word (wrapped p z) < 2 ^ 32
cut_small p z few = word_small (wrapped p z) (fewer_bits p 31 (wrapped p z) few (wrapped_fits p z))

tested_does :
    (k : Setting) → OverflowComes k → (p : Point) (numbers : ℕ → ℕ) (taken c index : ℕ) (f : Family)
    (precision x : ℕ) (z : ℤ) (h : frame_of k.block p) → IsAmong k.block numbers p →
    p.control.line ≡ k.around.line → HasRegisters k taken 1 → x ≡ word (wrapped precision z) → x < 2 ^ 32 →
    (x == word z) ≡ is_of_precision precision z →
    Linked k.block.call.surroundings.links k.block.call.code index
    (skip_where Test.Equal u1 a0 (over_code (in_registers k.words taken))) →
    c + size_of (skip_where Test.Equal u1 a0 (over_code (in_registers k.words taken))) + k.most
    ≤ cost k.block.call.code →
    ((b : Base) → At b index (Known (point_ground k.block.call.surroundings p h) (services_of p) numbers (λ j. 0)
    (lowered x (word z)) b) (f b)) →
    Comes k.block.call.code c f (services_of p)
    (fitted_aims k.block k.labels precision
    (behind p numbers taken c index (skip_where Test.Equal u1 a0 (over_code (in_registers k.words taken)))))
    (R.value_of k.around (checked precision z) k.block.call.surroundings.acts p.state)
unfolding R.value_of give ◌>>◌
tested_does k over p numbers taken c index f precision x z h o line registers' cut small' test l paid at =
    by (is_of_precision precision z) refl
  where
    t : Taken
    t = in_registers k.words taken

    part : Code
    part = skip_where Test.Equal u1 a0 (over_code t)

    whole : Stretch
    whole = behind p numbers taken c index part

    acts : ℕ
    acts = k.block.call.surroundings.acts

    tests : (q : Bool) → is_of_precision precision z ≡ q → (b : Base) →
        ((f b).machine.registers 6 == (f b).machine.registers 10) ≡ q
    tests q e b =
        let o' = (at b).holds.regs in
        ap (λ u. u == (f b).machine.registers 10) o'.0 ∙ ap (λ u. x == u) o'.1.0 ∙ test ∙ e

    by :
        (q : Bool) → is_of_precision precision z ≡ q →
        Comes k.block.call.code c f (services_of p) (fitted_aims k.block k.labels precision whole)
        (R.value_of k.around
        (cond (is_of_precision precision z) (Gives z) (Raises C.FixedOverflow 20 (wrapped precision z))) acts p.state)
    by true e =
        let reach = skip_taken c f Test.Equal u1 a0 (over_code t) l at (tests true e) in
        subst (λ q. Comes k.block.call.code c f (services_of p) (fitted_aims k.block k.labels precision whole)
        (R.value_of k.around (cond q (Gives z) (Raises C.FixedOverflow 20 (wrapped precision z))) acts p.state))
        (sym e)
        (onward (fitted_closed k.block k.labels precision whole) reach
        (λ g at'. record {
          to = λ early. (
            e,
            word_here {x = whole} h o (omega arith) refl
                (stay k.block.call.code whole.wanted g (services_of p)
                (λ b y. At b whole.index (Known (point_ground k.block.call.surroundings p h) (services_of p) numbers
                (λ j. 0) (valued (word z)) b) y)
                (λ b. record {
                  pc = (at' b).pc;
                  holds = record { body = (at' b).holds.body; regs = ((at' b).holds.regs.1.0, tt) };
                })),
          );
        }))
    by false e =
        let v = services_of p in
        let front = move a0 u1 ∷ [] in
        let raise' = overflow_raised t in
        let l1 = rest_of _ (front ++ raise') l in
        let next' : Unit {0} → Meaning ℤ = λ u. give (wrapped precision z) in
        let flow = R.raised k.around C.FixedOverflow 20 acts p.state in
        let goal = fitted_aims k.block k.labels precision whole in
        let closed = fitted_closed k.block k.labels precision whole in
        subst (λ q. Comes k.block.call.code c f (services_of p) goal
        (R.value_of k.around (cond q (Gives z) (Raises C.FixedOverflow 20 (wrapped precision z))) acts p.state))
        (sym e)
        (onward closed (skip_passed c f Test.Equal u1 a0 (front ++ raise') l at (tests false e))
        (λ g at'.
        onward closed
        (straight (c + 1) g v v (λ b. Known (point_ground k.block.call.surroundings p h) v numbers (λ j. 0) (valued x)
        b) (front_of front raise' l1) (omega arith) (λ b. (at' b).pc)
        (λ b. let o' = (at' b).holds in record {
          body = record {
            services = o'.body.services;
            registers = o'.body.registers;
            bytes = o'.body.bytes;
            memory = o'.body.memory;
          };
          regs = (sum_zero _ x o'.regs.0 small', tt);
        }))
        (λ g2 at2.
        comes_on acts flow next'
        (comes_map (word_aims k.block k.labels (behind p numbers taken (c + 1 + 1) (index + 1 + 1) raise') x)
        (before k.block.call.code goal acts next') refl flow
        (λ c' f' v' u s q. record {
          to = λ early. (
            wrapped_fits precision z,
            subst (λ n. HasWord k.block whole n c' f' v' s) cut
                (word_further
                (record {
                  acts = omega arith;
                  line = refl;
                  index = omega arith;
                  wanted = omega arith;
                  taken = omega arith;
                  stays = λ i less. refl;
                }) q),
          );
        })
        (λ c' f' v' height label s q. q)
        (λ c' f' v' u s q. absurd q)
        (over p numbers taken (c + 1 + 1) (index + 1 + 1) x g2 o line registers' small' (back_of front raise' l1)
        (omega (arith, paid))
        (λ b. (in_known h o.image.parts (at2 b), (at2 b).holds.regs.0)))))))

-- ---- fewer bits

-- a number that is a word, or the one above the greatest
pub narrowed_does :
    (k : Setting) → OverflowComes k → (p : Point) (numbers : ℕ → ℕ) (taken c index : ℕ) (f : Family) (precision : ℕ)
    (z : ℤ) (h : frame_of k.block p) → IsAmong k.block numbers p → p.control.line ≡ k.around.line →
    HasRegisters k taken 1 → precision < 31 → IsWord z →
    Linked k.block.call.surroundings.links k.block.call.code index
    (narrowed_code (in_registers k.words taken) precision) →
    c + size_of (narrowed_code (in_registers k.words taken) precision) + k.most ≤ cost k.block.call.code →
    ((b : Base) → At b index (Known (point_ground k.block.call.surroundings p h) (services_of p) numbers (λ j. 0)
    (valued (word z)) b) (f b)) →
    Comes k.block.call.code c f (services_of p)
    (fitted_aims k.block k.labels precision
    (behind p numbers taken c index (narrowed_code (in_registers k.words taken) precision)))
    (R.value_of k.around (checked precision z) k.block.call.surroundings.acts p.state)
narrowed_does k over p numbers taken c index f precision z h o line registers' less is l paid at =
    let t = in_registers k.words taken in
    let v = services_of p in
    let g = point_ground k.block.call.surroundings p h in
    let front = shift Shift.Left u1 a0 (31 - precision) ∷ shift Shift.RightArithmetic u1 u1 (31 - precision) ∷ [] in
    let last = skip_where Test.Equal u1 a0 (over_code t) in
    let x = narrowed (31 - precision) (word z) in
    let cut = narrowed_word precision z less is in
    let bound = cut_small precision z (omega (arith, less)) in
    let r = straight c f v v (λ b. Known g v numbers (λ j. 0) (lowered x (word z)) b) (front_of front last l)
    (omega arith) (λ b. (at b).pc)
    (λ b. let o' = (at b).holds in record {
      body = record {
        services = o'.body.services;
        registers = o'.body.registers;
        bytes = o'.body.bytes;
        memory = o'.body.memory;
      };
      regs = (ap (narrowed (31 - precision)) o'.regs.0, (o'.regs.0, tt));
    }) in
    onward
    (fitted_closed k.block k.labels precision (behind p numbers taken c index (narrowed_code t precision))) r (λ f' at'.
    fitted_further precision
    (record {
      acts = omega arith;
      line = refl;
      index = omega arith;
      wanted = omega arith;
      taken = omega arith;
      stays = λ i less'. refl;
    })
    (tested_does k over p numbers taken (c + size_of front) (index + size_of front) f' precision x z h o line
    registers' cut (subst (λ u. u < 2 ^ 32) (sym cut) bound)
    (narrowed_tested (is_of_precision precision z) precision z (grind (arith, nat_tests)) is refl)
    (back_of front last l) (omega (arith, paid)) at'))

fewer_cut :
    (k : Setting) (precision : ℕ) → precision < 31 → OverflowComes k →
    Cuts k 1 precision (λ t. fitted_code t precision) (λ z. R.value_of k.around (checked precision z))
fewer_cut k precision less over =
    subst
    (λ q. Cuts k 1 precision (λ t. cond q (narrowed_code t precision) [])
    (λ z. R.value_of k.around (checked precision z)))
    (sym (below precision less))
    (λ p numbers taken c index f z h o line registers' wide l paid at.
    narrowed_does k over p numbers taken c index f precision z h o line registers' less (wide_word z wide) l paid at)
  where
    below : (n : ℕ) → n < 31 → nat_lt n 31 ≡ true
    below n h = grind (arith, nat_tests)

pub fewer_fits :
    (k : Setting) (x : Y.Number) (precision m : ℕ) → precision < 31 → OverflowComes k → Does k m x →
    Fits k (max m 1) precision x
fewer_fits k x precision m less over does =
    then_fits k m 1 (max m 1) precision (λ t. number_code k.block.environment t x) (λ t. fitted_code t precision)
    (V.number k.around x) (λ z. R.value_of k.around (checked precision z)) (le-max_left m 1) (le-max_right m 1) does
    (fewer_cut k precision less over)

-- ---- all bits

all_cut : (k : Setting) → Cuts k 0 31 (λ t. fitted_code t 31) (λ z. R.value_of k.around (checked 31 z))
unfolding R.value_of give
all_cut k p numbers taken c index f z h o line registers' wide l paid at =
    let whole = behind p numbers taken c index [] in
    let acts = k.block.call.surroundings.acts in
    let here : Stretch = record {
      acts = p.state.world.acts;
      line = p.control.line;
      index = index;
      wanted = c;
      taken = taken;
      numbers = numbers;
    } in
    subst (λ q. Comes k.block.call.code c f (services_of p) (fitted_aims k.block k.labels 31 whole)
    (R.value_of k.around (cond q (Gives z) (Raises C.FixedOverflow 20 (wrapped 31 z))) acts p.state)) (sym wide)
    (record {
      to = λ early. (
        wide,
        word_further {x = here}
            (record {
              acts = omega arith;
              line = refl;
              index = omega arith;
              wanted = omega arith;
              taken = omega arith;
              stays = λ i less. refl;
            })
            (word_here {x = here} h o (omega arith) refl
            (stay k.block.call.code c f (services_of p)
            (λ b y. At b index (Known (point_ground k.block.call.surroundings p h) (services_of p) numbers (λ j. 0)
            (valued (word z)) b) y) at)),
      );
    })

pub all_fits : (k : Setting) (x : Y.Number) (m : ℕ) → Does k m x → Fits k m 31 x
all_fits k x m does =
    then_fits k m 0 m 31 (λ t. number_code k.block.environment t x) (λ t. fitted_code t 31)
    (V.number k.around x) (λ z. R.value_of k.around (checked 31 z)) (omega arith) (omega arith) does (all_cut k)
