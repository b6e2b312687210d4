-- Assignments of numbers and bits to variables of their types.
use Rattle.std.proofs.Common.{◌≡◌, ℕ, ◌+◌, ◌≤◌, List, ◌++◌, length, Some, Bool, sym, ap, ◌∙◌, subst, arith}
use Rattle.std.specs.Prelude.{ℤ, pos, max, slice_get, ◌==◌}
use Rattle.std.proofs.Math.Nat.{le-max_left, le-max_right}
use Rattle.rv_meaning.specs.declared.instr.Instr.{Instr}
use Rattle.rv_meaning.specs.Words.{word}
use Rattle.rv_meaning.specs.Memory.{store}
use Rattle.rv_meaning.specs.Machine.{memory_size, store_width}
use Rattle.pli_typing.specs.TypedTree as Y
use Rattle.pli_meaning.specs.BasicValues.{VariableName, BasicValue, BasicNumber, BasicBit}
use Rattle.pli_meaning.specs.Numbers.{checked}
use Rattle.pli_meaning.specs.Texts.{bit_number}
use Rattle.pli_meaning.specs.StorageState.{State, with_world, with_generation}
use Rattle.pli_meaning.specs.Control.{Normal, Meaning, give, flow_on, stored, ◌>>=◌}
use Rattle.pli_meaning.specs.Raising as R
use Rattle.pli_meaning.specs.Raising.{Around}
use Rattle.pli_meaning.specs.Evaluating as V
use Rattle.pli_meaning.specs.Placing as P
use Rattle.pli_meaning.specs.Executing as M
use Rattle.pli_serving.specs.ServiceState.{Services}
use Rattle.pli_coding.specs.Assembly.{Code, size_of}
use Rattle.pli_coding.specs.Arithmetic.{fitted_code}
use Rattle.pli_coding.specs.Environments.{Environment, Taken}
use Rattle.pli_coding.specs.Expressions.{number_code, bit_code, stored_code}
use Rattle.pli_coding.specs.Storing.{word_stored}
use Rattle.pli_coding.specs.Linking.{Links}
use Rattle.temporary_bounds.specs.WordBounds.{number_words, bit_words}
use Rattle.temporary_bounds.specs.Spare.{spare}
use Rattle.temporary_bounds.proofs.Takes.{none_spare}
use Rattle.pli_headline.specs.ProvedSoFar.{Names, Types, IsProvedNumber, IsProvedBit, alone}
use Rattle.run_steps.specs.Engine.{Base, address}
use Rattle.run_steps.proofs.Linking.{size_append}
use Rattle.run_steps.specs.Items.{Linked, At}
use Rattle.run_steps.specs.Bodies.{Ground, Known, reserved_are}
use Rattle.run_steps.proofs.Jumps.{front_of, back_of}
use Rattle.run_steps.specs.Temporaries.{Stays, nothing}
use Rattle.run_steps.proofs.Temporaries.{stays_same}
use Rattle.run_steps.proofs.Reaching.{write_based}
use Rattle.pli_headline.proofs.Operators.{valued}
use Rattle.pli_headline.proofs.Precisions.{fitted_piece}
use Rattle.pli_headline.proofs.Scalars.{Values, value_as, Fits, fits_numeric, bit_back, bit_fits, bit_word, store_kind}
use Rattle.pli_headline.proofs.Variables.{HoldsScalar, whole, own, level_of, data_place, designated_scalar}
use Rattle.pli_headline.proofs.Variables.{designated_gives, base_found, scalar_stored, scalar_stored_is}
use Rattle.pli_headline.proofs.Expressions.{Scope, Setting, number_does, bit_does}
use Rattle.run_steps.specs.Reach.{Family, Aims, Comes, Closed}
use Rattle.run_steps.proofs.Reach.{before_closed, comes_on, onward}

-- ---- the meaning

-- the state after a value is assigned to what a variable stands for
abbrev pub assigned_state : State → Y.LeafType → (serial : ℕ) → (ℕ → List ℤ → BasicValue) → ℤ → State
assigned_state s type serial values z =
    with_world s.world (with_generation (VariableName serial) (P.with_element (designated_scalar type serial values) (value_as type z)) s)

pub assigned_gives : (around : Around) (s : State) (j : ℕ) (block : Names) (type : Y.LeafType) (old z : ℤ) (k : ℕ) (h : HoldsScalar s (own block j) type old) → M.assigned around (whole (own block j)) (value_as type z) k s ≡ Normal tt (assigned_state s type h.serial h.values z)
unfolding M.assigned P.element_stored stored ◌>>=◌ give
assigned_gives around s j block type old z k h =
    ap (λ q. flow_on k q (λ d. P.element_stored d (value_as type z))) (designated_gives around s (own block j) type old k h)

-- ---- the value

-- code that leaves the word of what is due where a type is stored
pub record Stores (links : Links) (code : List Instr) (g : Ground) (v : Services) (s : State) (k : ℕ) (words : ℕ) (type : Y.LeafType) (part : Taken → Code) (meaning : Meaning BasicValue) : Type 1 where
  pub does : {i : ℕ} {h t : ℕ → ℕ} {aims : Aims BasicValue} (closed : Closed code aims) (f : Family) (taken : Taken)
      → taken.words + words ≤ g.words + spare taken → Linked links code i (part taken)
      → ((b : Base) → At b i (Known g v h t nothing b) (f b))
      → ((z : ℤ) (f' : Family) (h' t' : ℕ → ℕ) → Fits type z → Stays taken h t h' t'
      → ((b : Base) → At b (i + size_of (part taken)) (Known g v h' t' (valued (word z)) b) (f' b))
      → aims.done (i + size_of (part taken)) f' v (value_as type z) s) → Comes code i f v aims (meaning k s)

pub number_stores : {links : Links} {code : List Instr} {g : Ground} {v : Services} {s : State} {k : ℕ} {e : Environment} {block : Names} {types : Types} {held : Values} {around : Around} (p : ℕ) (x : Y.Number) → p ≤ 31 → Setting links code g v s k e block types held around → IsProvedNumber block types x → Stores links code g v s k (max 1 (number_words x)) (Y.FixedLeaf p) (λ taken. stored_code e taken (Y.StoredNumber p x)) (V.stored_value around (Y.StoredNumber p x))
unfolding V.stored_value ◌>>=◌ give
number_stores {code = code} {v = v} {s = s} {k = k} {e = e} {around = around} p x few st is =
    record {
      does = λ {i} {h} {t} {aims} closed f taken room l at goal.
          let a = number_code e taken x in
          let c = fitted_code taken p in
          let least = le-max_left 1 (number_words x) in
          let most = le-max_right 1 (number_words x) in
          let size = size_append a c in
          let place : i + size_of a + size_of c ≡ i + size_of (a ++ c) = omega (arith, size) in
          let as_value : ℤ → Meaning BasicValue = λ z. give (BasicNumber z) in
          let fit : ℤ → Meaning BasicValue = λ z. (R.value_of around (checked p z)) >>= as_value in
          comes_on k (V.number around x k s) fit
          ((number_does x st is).does (before_closed k fit closed) f taken (omega (arith, room, most)) (front_of a c l) at
          (λ z f1 h1 t1 wide stays at1.
          comes_on k (R.value_of around (checked p z) k s) as_value
          (fitted_piece (before_closed k as_value closed) st.routines st.temps f1 around taken p z k few wide
          (λ none. let z = none_spare taken none in omega (arith, z, room, least)) (back_of a c l) st.serving at1
          (λ f2 fits at2. record {
            to = λ early.
                subst (λ n. aims.done n f2 v (BasicNumber z) s) (sym place)
                (goal z f2 h1 t1 (few, fits) stays (λ b. record { pc = (at2 b).pc ∙ ap (address b) place; holds = (at2 b).holds }));
          }))));
    }

pub bit_stores : {links : Links} {code : List Instr} {g : Ground} {v : Services} {s : State} {k : ℕ} {e : Environment} {block : Names} {types : Types} {held : Values} {around : Around} (x : Y.Bit) → Setting links code g v s k e block types held around → IsProvedBit block types x → Stores links code g v s k (bit_words x) Y.BitLeaf (λ taken. stored_code e taken (Y.StoredBit x)) (V.stored_value around (Y.StoredBit x))
unfolding V.stored_value ◌>>=◌ give
bit_stores {v = v} {s = s} {k = k} {e = e} {around = around} x st is =
    record {
      does = λ {i} {h} {t} {aims} closed f taken room l at goal.
          let as_value : Bool → Meaning BasicValue = λ b. give (BasicBit b) in
          comes_on k (V.bit around x k s) as_value
          ((bit_does x st is).does (before_closed k as_value closed) f taken room l at
          (λ b f1 h1 t1 u stays at1. record {
            to = λ early.
                subst (λ q. aims.done (i + size_of (bit_code e taken x)) f1 v (BasicBit q) s) (bit_back b)
                (goal (bit_number b) f1 h1 t1 (bit_fits b) stays (λ base. record { pc = (at1 base).pc; holds = record { body = (at1 base).holds.body; regs = ((at1 base).holds.regs.0 ∙ bit_word b, tt) } }));
          }));
    }

-- ---- the store

-- a value in a0 is assigned to a variable, with whatever credits there are
pub stored_piece : {links : Links} {code : List Instr} {i : ℕ} {g : Ground} (g' : Ground) {v : Services} {h t :
    ℕ → ℕ} {s : State} {aims : Aims (Unit {0})} (closed : Closed code aims) (credits : ℕ) (e : Environment) (block :
    Names) (types : Types) (held : Values) (f : Family) (around : Around) (taken : Taken) (j : ℕ) {type :
    Y.LeafType} (z : ℤ) (k : ℕ) (below : slice_get types j ≡ Some (alone type)) → (fits : Fits type z)
    → (scope : Scope g e block types s held) → ((b : Base) (h' : ℕ → ℕ) → reserved_are b g h' ≡ reserved_are b g' h')
    → ((t' : ℕ → ℕ) (b : Base) (m : List ℕ) → length m ≡ memory_size → g.memory t' b m
    → g'.memory t' b (store (store_width (store_kind type)) m (scope.base j + data_place e block j) (word z)))
    → Linked links code i (word_stored e taken (whole (own block j)))
    → ((b : Base) → At b i (Known g v h t (valued (word z)) b) (f b))
    → ((f' : Family) (h' t' : ℕ → ℕ) → Stays taken h t h' t'
    → ((b : Base) → At b (i + size_of (word_stored e taken (whole (own block j)))) (Known g' v h' t' nothing b)
    (f' b)) → aims.done (credits + size_of (word_stored e taken (whole (own block j)))) f' v tt
    (assigned_state s type (scope.holds j below (fits_numeric type z fits)).serial
    (scope.holds j below (fits_numeric type z fits)).values z))
    → Comes code credits f v aims (M.assigned around (whole (own block j)) (value_as type z) k s)
stored_piece {links = links} {code = code} {i = i} g' {v = v} {h = h} {t = t} {s = s} {aims =
    aims} closed credits e block types held f around taken j {type} z k below fits scope same writes l at goal =
    let holds = scope.holds j below (fits_numeric type z fits) in
    let place = data_place e block j in
    let written = base_found e (level_of block j) ++ scalar_stored type e (level_of block j) place in
    let eq = scalar_stored_is e taken block j type (fits_numeric type z fits) (scope.declared j below) in
    let whole_size = ap size_of eq in
    let l1 = subst (Linked links code i) eq l in
    let there : i + size_of written ≡ i + size_of (word_stored e taken (whole (own block j))) =
    omega (arith, whole_size) in
    let paid : credits + size_of written ≡ credits + size_of (word_stored e taken (whole (own block j))) =
    omega (arith, whole_size) in
    subst (Comes code credits f v aims) (sym (assigned_gives around s j block type (held.numbers j) z k holds))
    (onward closed (write_based (level_of block j == e.level) (level_of block j) g' credits f (scope.base j)
    (store_kind type) (pos place) (scope.base j + place) (word z) (scope.reach j below) (scope.within j below)
    (scope.places j below) (λ b. same b h) (λ b m len o. writes t b m len o) l1 at)
    (λ f1 at1.
    record {
      to = λ early.
          subst (λ u. aims.done u f1 v tt (assigned_state s type holds.serial holds.values z)) (sym paid)
          (goal f1 h t (stays_same taken h t) (λ b. record {
            pc = (at1 b).pc ∙ ap (address b) there;
            holds =
                (at1 b).holds;
          }));
    }))
