-- Expressions of numbers, bits and texts: the code leaves the word of the meaning's value in a0, or a text on the stack of texts,
-- or the run ends with it.
use Rattle.std.proofs.Common.{◌≡◌, ℕ, ◌+◌, ◌^◌, ◌<◌, ◌≤◌, List, [], ◌∷◌, Some, Bool, true, false, refl, sym, ap, ◌∙◌, subst, arith, lit<, inl, inr, suc}
use Rattle.std.specs.Prelude.{ℤ, pos, max, slice_get, ◌==◌}
use Rattle.std.proofs.lemmas.Bool.Decides.{nat_tests}
use Rattle.std.proofs.Math.Nat.{le-max_left, le-max_right}
use Rattle.rv_meaning.specs.declared.instr.Instr.{Instr}
use Rattle.rv_meaning.specs.Words.{word, flag}
use Rattle.rv_meaning.specs.Memory.{load}
use Rattle.rv_meaning.specs.Machine.{memory_size, load_width, extended}
use Rattle.pli_typing.specs.TypedTree as Y
use Rattle.pli_meaning.specs.Texts.{bit_number}
use Rattle.pli_meaning.specs.StorageState.{State}
use Rattle.pli_meaning.specs.Control.{give, ◌>>=◌}
use Rattle.pli_meaning.specs.Raising.{Around}
use Rattle.pli_meaning.specs.Evaluating as V
use Rattle.pli_serving.specs.ServiceState.{Services, Entry, TextEntry}
use Rattle.pli_serving.specs.Outcomes.{with_entries}
use Rattle.pli_coding.specs.Registers.{a0, u1}
use Rattle.pli_coding.specs.Assembly.{Code, size_of}
use Rattle.pli_coding.specs.Instructions.{small}
use Rattle.pli_coding.specs.Environments.{Environment, Taken}
use Rattle.pli_coding.specs.Locating.{is_simple, simple_loaded}
use Rattle.pli_coding.specs.Expressions.{number_code, extremes_code, bit_code, text_code, BoundAsked, LowerAsked}
use Rattle.pli_coding.specs.Expressions.{UpperAsked, ElementsAsked}
use Rattle.pli_coding.specs.Linking.{Links}
use Rattle.temporary_bounds.specs.WordBounds.{number_words, numbers_words, bit_words, text_words, subscripts_words}
use Rattle.temporary_bounds.specs.Spare.{spare}
use Rattle.pli_headline.specs.ProvedSoFar.{Names, Types, IsOwn, IsProvedNumber, AreProvedNumbers, IsProvedBit, IsProvedText, IsPart, IsPartNumber, alone, IsDimension, IsPartText, text_leaf, IsScalar}
use Rattle.run_steps.specs.Engine.{Base}
use Rattle.run_steps.specs.Items.{Linked, At}
use Rattle.run_steps.proofs.Items.{straight}
use Rattle.run_steps.specs.Numbers.{IsWide}
use Rattle.run_steps.proofs.Numbers.{word_small}
use Rattle.run_steps.specs.Bodies.{Ground, Known, Free, PlaceFrom}
use Rattle.run_steps.proofs.Bodies.{zero_is, constant_piece}
use Rattle.run_steps.specs.Temporaries.{Temporaries, nothing}
use Rattle.run_steps.proofs.Temporaries.{stays_same}
use Rattle.run_steps.specs.Reaching.{Reaches}
use Rattle.run_steps.proofs.Reaching.{read_based, brought_based}
use Rattle.pli_headline.proofs.Serving.{Serving}
use Rattle.pli_headline.proofs.Raising.{Routines, small_is}
use Rattle.pli_headline.proofs.StandingBytes.{ConstantsStand}
use Rattle.pli_headline.proofs.Operators.{valued}
use Rattle.pli_headline.proofs.Calculations.{calculated_operates}
use Rattle.pli_headline.proofs.Signs.{signed_operates, absolute_operates, sign_operates}
use Rattle.pli_headline.proofs.Remainders.{modulo_operates}
use Rattle.pli_headline.proofs.Precisions.{divided_operates}
use Rattle.pli_headline.proofs.Extremes.{Follows, follows_none, follows_next, extreme_evaluates}
use Rattle.pli_headline.proofs.Comparisons.{numbers_operate, bits_operate, negated_operates, and_operates, or_operates}
use Rattle.pli_headline.proofs.Evaluations.{Kind, number_kind, bit_kind, Valued, Evaluates, read_evaluates, operated_evaluates, both_evaluate}
use Rattle.pli_headline.proofs.Scalars.{bit_of, bit_wide, bit_word, fits_wide, load_kind, IsNumeric, Values}
use Rattle.pli_headline.proofs.EditTexts.{at_other_texts}
use Rattle.pli_headline.proofs.Texts.{EvaluatesText, constant_evaluates, number_evaluates_text, bit_evaluates_text, joined_evaluates, from_evaluates, part_evaluates}
use Rattle.pli_headline.proofs.OnCodes.{oncode_evaluates}
use Rattle.pli_headline.proofs.TextValues.{one_finishes, two_finish, length_finishes, index_finishes, verify_finishes, number_finishes, bit_finishes, compare_finishes}
use Rattle.pli_headline.proofs.Variables.{HoldsScalar, IsDeclared, whole, own, level_of, number_gives, bit_gives}
use Rattle.pli_headline.proofs.Variables.{data_place, scalar_loaded, number_loaded, simple_loaded_is, bit_loaded}
use Rattle.pli_headline.proofs.Variables.{subscripts_in}
use Rattle.pli_headline.proofs.TextScopes.{TextsHeld, variable_evaluates}
use Rattle.run_steps.specs.Reach.{Family, Aims, Comes, Closed}
use Rattle.run_steps.proofs.Reach.{onward}
use Rattle.pli_headline.proofs.Subscripts.{Simple, none_evaluate, next_evaluate}
use Rattle.pli_headline.proofs.ArrayScopes.{ArraysHeld}
use Rattle.pli_headline.proofs.ArrayExpressions.{AllEvaluate, element_number_does, element_bit_does}
use Rattle.pli_headline.proofs.ArrayDimensions.{asked_number, dimension_does, BoundsScope, numbers_scope, texts_scope}
use Rattle.pli_headline.proofs.TextArrayScopes.{TextArraysHeld}
use Rattle.pli_headline.proofs.TextElements.{text_element_evaluates}
use Rattle.pli_typing.specs.Signatures.{Bounds}

-- the variables of a block, in the meaning and in memory
pub record Scope (g : Ground) (e : Environment) (block : Names) (types : Types) (s : State) (held : Values) : Type 0 where
  pub declared : (j : ℕ) {type : Y.LeafType} → slice_get types j ≡ Some (alone type) → IsDeclared e block j type
  pub holds : (j : ℕ) {type : Y.LeafType} → slice_get types j ≡ Some (alone type) → IsNumeric type → HoldsScalar s (own block j) type (held.numbers j)
  pub base : ℕ → ℕ
  pub within : (j : ℕ) {type : Y.LeafType} → slice_get types j ≡ Some (alone type) → base j < memory_size
  pub reach : (j : ℕ) {type : Y.LeafType} → slice_get types j ≡ Some (alone type) → Reaches (level_of block j == e.level) (level_of block j) g (base j)
  pub places : (j : ℕ) {type : Y.LeafType} → slice_get types j ≡ Some (alone type) → PlaceFrom (base j) (pos (data_place e block j)) (base j + data_place e block j)
  pub reads : (j : ℕ) {type : Y.LeafType} → slice_get types j ≡ Some (alone type) → IsNumeric type → (t : ℕ → ℕ) (b : Base) (m : List ℕ) → g.memory t b m → extended (load_kind type) (load (load_width (load_kind type)) m (base j + data_place e block j)) ≡ word (held.numbers j)
  pub texts : TextsHeld g e block types s base held
  pub arrays : ArraysHeld g e block types s held
  pub text_arrays : TextArraysHeld g e block types s held

-- what stands around an expression
pub record Setting (links : Links) (code : List Instr) (g : Ground) (v : Services) (s : State) (k : ℕ) (e : Environment) (block : Names) (types : Types) (held : Values) (around : Around) : Type 0 where
  pub routines : Routines links code
  pub constants : ConstantsStand links code g
  pub temps : Temporaries g
  pub scope : Scope g e block types s held
  pub serving : Serving k s v around.line

-- above other texts
pub above_texts : {links : Links} {code : List Instr} {g : Ground} {v : Services} {s : State} {k : ℕ} {e : Environment} {block : Names} {types : Types} {held : Values} {around : Around} (texts : List Entry) → Setting links code g v s k e block types held around → Setting links code g (with_entries texts v) s k e block types held around
above_texts texts st =
    record { routines = st.routines; constants = st.constants; temps = st.temps; scope = st.scope; serving = at_other_texts texts st.serving }

-- ---- constants and variables

constant_wide : (n : ℕ) → n < 2 ^ 31 → IsWide (pos n)
constant_wide n h = grind (arith, nat_tests)

-- a scratch register may be written while nothing else is known
abbrev free_a0 : Free nothing 10
free_a0 = record { reserved_stay = λ y u. refl; known_stay = λ b y u q. q; set = λ y u. refl }

constant_does : {links : Links} {code : List Instr} {g : Ground} {v : Services} {s : State} {k : ℕ} (e : Environment) (around : Around) (n : ℕ) → n < 2 ^ 31 → Evaluates number_kind links code g v s k 0 (λ taken. number_code e taken (Y.NumberConstant n)) (V.number around (Y.NumberConstant n))
unfolding V.number give
constant_does e around n is =
    record {
      does = λ {i} {h} {t} {aims} closed f taken room l at goal.
          let wide = constant_wide n is in
          onward closed (constant_piece i f a0 (pos n) (word_small (pos n) wide) free_a0 l at)
          (λ f' at'. record { to = λ early. goal (pos n) f' h t wide (stays_same taken h t) at' });
    }

-- a variable of a type, read as a value of some kind
own_piece : {X : Type 0} (kind : Kind X) {links : Links} {code : List Instr} {i : ℕ} {g : Ground} {v : Services} {h t : ℕ → ℕ} {s : State} {aims : Aims X} (closed : Closed code aims) (e : Environment) (block : Names) (types : Types) (held : Values) (f : Family) (taken : Taken) (j k : ℕ) {type : Y.LeafType} (below : slice_get types j ≡ Some (alone type)) → IsNumeric type → (x : X) → kind.Fits x → word (held.numbers j) ≡ kind.word_of x → (scope : Scope g e block types s held) → Linked links code i (scalar_loaded type e (level_of block j) (data_place e block j)) → ((b : Base) → At b i (Known g v h t nothing b) (f b)) → Valued kind g taken h t v s (i + size_of (scalar_loaded type e (level_of block j) (data_place e block j))) aims → Comes code i f v aims (give x k s)
unfolding give
own_piece kind {i = i} {h = h} {t = t} closed e block types held f taken j k {type} below numeric x fits same scope l at goal =
    let place = data_place e block j in
    let r = read_based (level_of block j == e.level) (level_of block j) i f (scope.base j) (load_kind type) (pos place) (scope.base j + place) (λ b. word (held.numbers j)) (scope.reach j below) (scope.within j below) (scope.places j below) (λ b m o. scope.reads j below numeric t b m o) l at in
    onward closed r
    (λ f' at'. record {
      to = λ early. goal x f' h t fits (stays_same taken h t)
          (λ b. record {
            pc = (at' b).pc;
            holds = record
                { body = (at' b).holds.body; regs = ((at' b).holds.regs.0 ∙ same, tt) };
          });
    })

own_does : {links : Links} {code : List Instr} {g : Ground} {v : Services} {s : State} {k : ℕ} {e : Environment} {block : Names} {types : Types} {held : Values} (around : Around) (r : Y.Reference) (words p : ℕ) → IsOwn block types (Y.FixedLeaf p) r → Scope g e block types s held → Evaluates number_kind links code g v s k words (λ taken. number_code e taken (Y.NumberIn r)) (V.number around (Y.NumberIn r))
own_does {links} {code} {g} {v} {s} {k} {e} {block} {types} {held} around r words p is scope =
    record {
      does = λ {i} {h} {t} {aims} closed f taken room l at goal.
          let j = is.index in
          let holds = scope.holds j is.declared tt in
          let eq = number_loaded e taken block j p (scope.declared j is.declared) in
          let loaded = scalar_loaded (Y.FixedLeaf p) e (level_of block j) (data_place e block j) in
          let P : Code → Type 0 = λ c. Linked links code i c → Valued number_kind g taken h t v s (i + size_of c) aims → Comes code i f v aims (V.number around (Y.NumberIn (whole (own block j))) k s) in
          let q : P loaded = λ l' goal'.
          subst (Comes code i f v aims) (sym (number_gives around s (own block j) p (held.numbers j) k holds))
          (own_piece number_kind closed e block types held f taken j k is.declared tt (held.numbers j) (fits_wide (Y.FixedLeaf p) (held.numbers j) holds.fits) refl scope l' at goal') in
          let T : Y.Reference → Type 0 = λ u. Linked links code i (number_code e taken (Y.NumberIn u)) → Valued number_kind g taken h t v s (i + size_of (number_code e taken (Y.NumberIn u))) aims → Comes code i f v aims (V.number around (Y.NumberIn u) k s) in
          let w : T (whole (own block j)) = subst P (sym eq) q in
          subst T (sym is.is) w l goal;
    }

own_bit_does : {links : Links} {code : List Instr} {g : Ground} {v : Services} {s : State} {k : ℕ} {e : Environment} {block : Names} {types : Types} {held : Values} (around : Around) (r : Y.Reference) (words : ℕ) → IsOwn block types Y.BitLeaf r → Scope g e block types s held → Evaluates bit_kind links code g v s k words (λ taken. bit_code e taken (Y.BitIn r)) (V.bit around (Y.BitIn r))
own_bit_does {links} {code} {g} {v} {s} {k} {e} {block} {types} {held} around r words is scope =
    record {
      does = λ {i} {h} {t} {aims} closed f taken room l at goal.
          let j = is.index in
          let holds = scope.holds j is.declared tt in
          let eq = bit_loaded e taken block j (scope.declared j is.declared) in
          let loaded = scalar_loaded Y.BitLeaf e (level_of block j) (data_place e block j) in
          let same : word (held.numbers j) ≡ flag (bit_of (held.numbers j)) = ap word holds.fits ∙ sym (bit_word (bit_of (held.numbers j))) in
          let P : Code → Type 0 = λ c. Linked links code i c → Valued bit_kind g taken h t v s (i + size_of c) aims → Comes code i f v aims (V.bit around (Y.BitIn (whole (own block j))) k s) in
          let q : P loaded = λ l' goal'.
          subst (Comes code i f v aims) (sym (bit_gives around s (own block j) (held.numbers j) k holds))
          (own_piece bit_kind closed e block types held f taken j k is.declared tt (bit_of (held.numbers j)) tt same scope l' at goal') in
          let T : Y.Reference → Type 0 = λ u. Linked links code i (bit_code e taken (Y.BitIn u)) → Valued bit_kind g taken h t v s (i + size_of (bit_code e taken (Y.BitIn u))) aims → Comes code i f v aims (V.bit around (Y.BitIn u) k s) in
          let w : T (whole (own block j)) = subst P (sym eq) q in
          subst T (sym is.is) w l goal;
    }

own_text_does : {links : Links} {code : List Instr} {g : Ground} {v : Services} {s : State} {k : ℕ} {e : Environment} {block : Names} {types : Types} {held : Values} (around : Around) (varying : Bool) (most : ℕ) (r : Y.Reference) → IsOwn block types (text_leaf varying most) r → Scope g e block types s held → EvaluatesText links code g v s k (text_words (Y.TextIn r)) (λ taken. text_code e taken (Y.TextIn r)) (V.text around (Y.TextIn r))
own_text_does {links} {code} {g} {v} {s} {k} {e} {block} around varying most r is scope =
    let j = is.index in
    let inside = (scope.places j is.declared).inside in
    subst (λ u. EvaluatesText links code g v s k (text_words (Y.TextIn u)) (λ taken. text_code e taken (Y.TextIn u)) (V.text around (Y.TextIn u))) (sym is.is)
    (variable_evaluates around j varying most (text_words (Y.TextIn (whole (own block j)))) is.declared (scope.declared j is.declared) (scope.reach j is.declared) (omega (arith, inside)) scope.texts)

bit_does' : {links : Links} {code : List Instr} {g : Ground} {v : Services} {s : State} {k : ℕ} (n : ℕ) (b : Bool) → n < 2 ^ 16 → n ≡ flag b → Evaluates bit_kind links code g v s k 0 (λ taken. small a0 n ∷ []) (give b)
unfolding give
bit_does' {g = g} {v = v} n b few e =
    record {
      does = λ {i} {h} {t} {aims} closed f taken room l at goal.
          onward closed (straight i f v v (λ base. Known g v h t (valued (flag b)) base) l (omega arith) (λ base. (at base).pc)
          (λ base. let o = (at base).holds in record {
            body = record { services = o.body.services; registers = o.body.registers; bytes = o.body.bytes; memory = o.body.memory };
            regs = (small_is _ n (zero_is o.body) (omega (arith, few)) ∙ e, tt);
          }))
          (λ f' at'. record { to = λ early. goal b f' h t tt (stays_same taken h t) at' });
    }

-- ---- references

-- an element, or a variable
number_part_does : {links : Links} {code : List Instr} {g : Ground} {v : Services} {s : State} {k : ℕ} {e : Environment} {block : Names} {types : Types} {held : Values} {around : Around} (r : Y.Reference) → IsPartNumber block types r → Setting links code g v s k e block types held around → AllEvaluate links code g v s k e around (subscripts_in r) → Evaluates number_kind links code g v s k (number_words (Y.NumberIn r)) (λ taken. number_code e taken (Y.NumberIn r)) (V.number around (Y.NumberIn r))
number_part_does {links} {code} {g} {v} {s} {k} {e} {block} {types} {held} {around} r is st all = by_part is.part
  where
    by_part : IsPart block types (Y.FixedLeaf is.precision) r → Evaluates number_kind links code g v s k (number_words (Y.NumberIn r)) (λ taken. number_code e taken (Y.NumberIn r)) (V.number around (Y.NumberIn r))
    by_part (inl o) = own_does around r (number_words (Y.NumberIn r)) is.precision o st.scope
    by_part (inr o) =
        let all' = subst (λ q. AllEvaluate links code g v s k e around (subscripts_in q)) o.is all in
        subst (λ q. Evaluates number_kind links code g v s k (number_words (Y.NumberIn q)) (λ taken. number_code e taken (Y.NumberIn q)) (V.number around (Y.NumberIn q))) (sym o.is)
        (element_number_does around st.routines st.serving (st.scope.arrays o.index (Y.FixedLeaf is.precision) o.bound
        o.bounds (o.declared, tt)) o.first o.rest all' (ap (λ n. suc n) o.many))

bit_part_does : {links : Links} {code : List Instr} {g : Ground} {v : Services} {s : State} {k : ℕ} {e : Environment} {block : Names} {types : Types} {held : Values} {around : Around} (r : Y.Reference) → IsPart block types Y.BitLeaf r → Setting links code g v s k e block types held around → AllEvaluate links code g v s k e around (subscripts_in r) → Evaluates bit_kind links code g v s k (bit_words (Y.BitIn r)) (λ taken. bit_code e taken (Y.BitIn r)) (V.bit around (Y.BitIn r))
bit_part_does {around = around} r (inl o) st all = own_bit_does around r (bit_words (Y.BitIn r)) o st.scope
bit_part_does {links} {code} {g} {v} {s} {k} {e} {around = around} r (inr o) st all =
    let all' = subst (λ q. AllEvaluate links code g v s k e around (subscripts_in q)) o.is all in
    subst (λ q. Evaluates bit_kind links code g v s k (bit_words (Y.BitIn q)) (λ taken. bit_code e taken (Y.BitIn q)) (V.bit around (Y.BitIn q))) (sym o.is)
    (element_bit_does around st.routines st.serving (st.scope.arrays o.index Y.BitLeaf o.bound o.bounds (
      o.declared,
      tt,
    )) o.first o.rest all' (ap (λ n. suc n) o.many))

text_part_does : {links : Links} {code : List Instr} {g : Ground} {v : Services} {s : State} {k : ℕ} {e : Environment} {block : Names} {types : Types} {held : Values} {around : Around} (r : Y.Reference) → IsPartText block types r → Setting links code g v s k e block types held around → AllEvaluate links code g v s k e around (subscripts_in r) → EvaluatesText links code g v s k (text_words (Y.TextIn r)) (λ taken. text_code e taken (Y.TextIn r)) (V.text around (Y.TextIn r))
text_part_does {links} {code} {g} {v} {s} {k} {e} {block} {types} {held} {around} r is st all = by_part is.part
  where
    by_part : IsPart block types (text_leaf is.varying is.most) r → EvaluatesText links code g v s k (text_words (Y.TextIn r)) (λ taken. text_code e taken (Y.TextIn r)) (V.text around (Y.TextIn r))
    by_part (inl o) = own_text_does around is.varying is.most r o st.scope
    by_part (inr o) =
        let all' = subst (λ q. AllEvaluate links code g v s k e around (subscripts_in q)) o.is all in
        subst (λ q. EvaluatesText links code g v s k (text_words (Y.TextIn q)) (λ taken. text_code e taken (Y.TextIn q)) (V.text around (Y.TextIn q))) (sym o.is)
        (text_element_evaluates around st.routines st.serving (st.scope.text_arrays o.index is.varying is.most o.bound
        o.bounds o.declared) o.first o.rest all' (ap (λ n. suc n) o.many))

-- ---- simple numbers

-- a constant, in u1
constant_given : {links : Links} {code : List Instr} {g : Ground} {v : Services} {s : State} {k : ℕ} (e :
    Environment) (around : Around) (n : ℕ) → n < 2 ^ 31
    → Simple links code g v s k (simple_loaded e u1 (Y.NumberConstant n)) (V.number around (Y.NumberConstant n))
unfolding V.number give
constant_given e around n is =
    let wide = constant_wide n is in
    record {
      value = pos n;
      wide = wide;
      meant = refl;
      gives = λ h t. record {
        comes = λ c f free far l at. constant_piece c f u1 (pos n) (word_small (pos n) wide)
            free l at;
      };
    }

-- a variable of the block
own_given : {links : Links} {code : List Instr} {g : Ground} {v : Services} {s : State} {k : ℕ} {e :
    Environment} {block : Names} {types : Types} {held : Values} (around : Around) (r : Y.Reference) (p : ℕ)
    → IsOwn block types (Y.FixedLeaf p) r → Scope g e block types s held
    → Simple links code g v s k (simple_loaded e u1 (Y.NumberIn r)) (V.number around (Y.NumberIn r))
own_given {links} {code} {g} {v} {s} {k} {e} {block} {types} {held} around r p is scope =
    let j = is.index in
    let holds = scope.holds j is.declared tt in
    let place = data_place e block j in
    let z = held.numbers j in
    let T : Y.Reference → Type 1 = λ q. Simple links code g v s k (simple_loaded e u1 (Y.NumberIn q))
    (V.number around (Y.NumberIn q)) in
    subst T (sym is.is)
    (subst (λ c. Simple links code g v s k c (V.number around (Y.NumberIn (whole (own block j)))))
    (sym (simple_loaded_is e block j p (scope.declared j is.declared)))
    (record {
      value = z;
      wide = fits_wide (Y.FixedLeaf p) z holds.fits;
      meant = number_gives around s (own block j) p z k holds;
      gives = λ h t. record {
        comes = λ c f free far l at. brought_based (level_of block j == e.level) (level_of block j) c f (scope.base j)
            (load_kind (Y.FixedLeaf p)) (pos place) (scope.base j + place) (λ b. word z) (scope.reach j is.declared)
            (scope.within j is.declared) (scope.places j is.declared) (λ b m o. scope.reads j is.declared tt t b m o)
            free far l at;
      };
    }))

simple_part : {links : Links} {code : List Instr} {g : Ground} {v : Services} {s : State} {k : ℕ} {e :
    Environment} {block : Names} {types : Types} {held : Values} (around : Around) (r : Y.Reference) (p : ℕ)
    → IsPart block types (Y.FixedLeaf p) r → Scope g e block types s held → is_simple e (Y.NumberIn r) ≡ true
    → Simple links code g v s k (simple_loaded e u1 (Y.NumberIn r)) (V.number around (Y.NumberIn r))
simple_part around r p (inl o) scope is = own_given around r p o scope
simple_part {e = e} around r p (inr o) scope is =
    let none : false ≡ true = subst (λ q. is_simple e (Y.NumberIn q) ≡ true) o.is is in
    absurd (cc none)

simple_does : (x : Y.Number) {links : Links} {code : List Instr} {g : Ground} {v : Services} {s : State} {k : ℕ} {e :
    Environment} {block : Names} {types : Types} {held : Values} {around : Around}
    → Setting links code g v s k e block types held around → IsProvedNumber block types x → is_simple e x ≡ true
    → Simple links code g v s k (simple_loaded e u1 x) (V.number around x)
simple_does (Y.NumberConstant n) {e = e} {around = around} st is simple = constant_given e around n is
simple_does (Y.NumberIn (Y.Referring w locator part subscripts)) {around = around} st is simple =
    simple_part around (Y.Referring w locator part subscripts) is.0.precision is.0.part st.scope simple
simple_does _ st is simple = absurd (cc simple)

-- an array, of whatever scalars
bounds_scope : {g : Ground} {e : Environment} {block : Names} {types : Types} {s : State} {held : Values} (scope : Scope g e block types s held) (j : ℕ) (type : Y.LeafType) (b : Bounds) (bs : List Bounds) → IsScalar type → slice_get types j ≡ Some (record { type = type; bounds = b ∷ bs }) → BoundsScope e s block j type (b ∷ bs)
bounds_scope scope j (Y.FixedLeaf p) b bs is below = numbers_scope (scope.arrays j (Y.FixedLeaf p) b bs (below, tt))
bounds_scope scope j Y.BitLeaf b bs is below = numbers_scope (scope.arrays j Y.BitLeaf b bs (below, tt))
bounds_scope scope j (Y.CharacterLeaf (Y.ConstantExtent (pos most))) b bs is below = texts_scope (scope.text_arrays j false most b bs below)
bounds_scope scope j (Y.VaryingLeaf (Y.ConstantExtent (pos most))) b bs is below = texts_scope (scope.text_arrays j true most b bs below)
bounds_scope scope j _ b bs is below = absurd is

-- a bound, or the number of subscripts
bound_asked : {links : Links} {code : List Instr} {g : Ground} {v : Services} {s : State} {k : ℕ} {e : Environment} {block : Names} {types : Types} {held : Values} {around : Around} (asked : BoundAsked) (r : Y.Reference) (dimension : ℕ) → IsDimension block types r dimension → Setting links code g v s k e block types held around → Evaluates number_kind links code g v s k (number_words (asked_number asked r dimension)) (λ taken. number_code e taken (asked_number asked r dimension)) (V.number around (asked_number asked r dimension))
bound_asked {links} {code} {g} {v} {s} {k} {e} {block} {around = around} asked r dimension is st =
    let T : Y.Reference → ℕ → Type 1 = λ q n. Evaluates number_kind links code g v s k (number_words (asked_number asked q n)) (λ taken. number_code e taken (asked_number asked q n)) (V.number around (asked_number asked q n)) in
    subst (λ q. T q dimension) (sym is.is)
    (subst (T (whole (own block is.index))) (sym is.dimension_is)
    (dimension_does asked around is.place is.asked (bounds_scope st.scope is.index is.type is.bound is.bounds is.held is.declared) is.among))

-- ---- expressions

mutual
  unfolding V.number V.numbers V.bit V.text ◌>>=◌ give

  pub number_does : (x : Y.Number) {links : Links} {code : List Instr} {g : Ground} {v : Services} {s : State} {k : ℕ} {e : Environment} {block : Names} {types : Types} {held : Values} {around : Around} → Setting links code g v s k e block types held around → IsProvedNumber block types x → Evaluates number_kind links code g v s k (number_words x) (λ taken. number_code e taken x) (V.number around x)
  number_does (Y.NumberConstant n) {e = e} {around = around} st is = constant_does e around n is
  number_does (Y.NumberIn (Y.Referring w locator part subscripts)) st is =
      number_part_does (Y.Referring w locator part subscripts) is.0 st (subscripts_do subscripts st is.1)
  number_does (Y.NumberOfBit x) st is = read_evaluates bit_number (λ b fits. bit_wide b) bit_word (bit_does x st is)
  number_does (Y.Signed sign x) {around = around} st is =
      operated_evaluates (max 1 (number_words x)) (le-max_right 1 (number_words x)) (le-max_left 1 (number_words x)) (number_does x st is)
      (λ z wz. signed_operates st.routines st.temps around st.serving sign z wz)
  number_does (Y.Calculated operator left right) {around = around} st is =
      both_evaluate st.temps (number_words left) (number_words right) (number_does left st is.0) (number_does right st is.1)
      (λ x y wx wy. calculated_operates st.routines st.temps around st.serving operator x y wx wy)
  number_does (Y.Absolute x) {around = around} st is =
      operated_evaluates (max 1 (number_words x)) (le-max_right 1 (number_words x)) (le-max_left 1 (number_words x)) (number_does x st is)
      (λ z wz. absolute_operates st.routines st.temps around st.serving z wz)
  number_does (Y.SignOf x) st is =
      operated_evaluates (number_words x) (omega arith) (omega arith) (number_does x st is) (λ z wz. sign_operates z wz)
  number_does (Y.Extreme extremum first more) st is =
      extreme_evaluates (number_words first) (numbers_words more) extremum (number_does first st is.0) (numbers_do more extremum st is.1)
  number_does (Y.Modulo dividend divisor) {around = around} st is =
      both_evaluate st.temps (number_words dividend) (number_words divisor) (number_does dividend st is.0) (number_does divisor st is.1)
      (λ x y wx wy. modulo_operates st.routines around st.serving x y wx wy)
  number_does (Y.Divided precision dividend divisor) {around = around} st is =
      both_evaluate st.temps (number_words dividend) (number_words divisor) (number_does dividend st is.1.0) (number_does divisor st is.1.1)
      (λ x y wx wy. divided_operates st.routines st.temps around st.serving precision is.0 x y wx wy)
  number_does (Y.NumberOfText x) {around = around} st is =
      one_finishes (text_does x st is) (λ text short. number_finishes st.routines around st.serving text)
  number_does (Y.LengthOf x) st is = one_finishes (text_does x st is) (λ text short. length_finishes text short)
  number_does (Y.IndexOf searched sought) {v = v} st is =
      two_finish (text_words searched) (text_words sought) (text_does searched st is.0) (λ text. text_does sought (above_texts (TextEntry text ∷ v.entries) st) is.1)
      (λ x y sx sy. index_finishes x y sx)
  number_does (Y.VerifyOf searched allowed) {v = v} st is =
      two_finish (text_words searched) (text_words allowed) (text_does searched st is.0) (λ text. text_does allowed (above_texts (TextEntry text ∷ v.entries) st) is.1)
      (λ x y sx sy. verify_finishes x y sx)
  number_does (Y.NumberFrom c) st is = absurd is
  number_does (Y.LowerBound r dimension) st is = bound_asked LowerAsked r dimension is st
  number_does (Y.UpperBound r dimension) st is = bound_asked UpperAsked r dimension is st
  number_does (Y.ElementsOf r dimension) st is = bound_asked ElementsAsked r dimension is st
  number_does (Y.AllocationsOf x) st is = absurd is
  number_does Y.OnCode {around = around} st is = oncode_evaluates around st.serving

  pub numbers_do : (xs : Y.Numbers) (extremum : Y.Extremum) {links : Links} {code : List Instr} {g : Ground} {v : Services} {s : State} {k : ℕ} {e : Environment} {block : Names} {types : Types} {held : Values} {around : Around} → Setting links code g v s k e block types held around → AreProvedNumbers block types xs → Follows links code g v s k (numbers_words xs) extremum (λ taken. extremes_code e taken extremum xs) (V.numbers around xs)
  numbers_do Y.NoNumber extremum st are = follows_none extremum
  numbers_do (Y.NumberThen first rest) extremum st are =
      follows_next st.temps (number_words first) (numbers_words rest) extremum (number_does first st are.0) (numbers_do rest extremum st are.1)

  pub subscripts_do : (xs : Y.Numbers) {links : Links} {code : List Instr} {g : Ground} {v : Services} {s : State} {k : ℕ} {e : Environment} {block : Names} {types : Types} {held : Values} {around : Around} → Setting links code g v s k e block types held around → AreProvedNumbers block types xs → AllEvaluate links code g v s k e around xs
  subscripts_do Y.NoNumber st are = none_evaluate
  subscripts_do (Y.NumberThen first rest) st are =
      next_evaluate st.temps (number_words first) (subscripts_words rest) first rest
      (λ simple. simple_does first st are.0 simple) (number_does first st are.0) (subscripts_do rest st are.1)

  pub bit_does : (x : Y.Bit) {links : Links} {code : List Instr} {g : Ground} {v : Services} {s : State} {k : ℕ} {e : Environment} {block : Names} {types : Types} {held : Values} {around : Around} → Setting links code g v s k e block types held around → IsProvedBit block types x → Evaluates bit_kind links code g v s k (bit_words x) (λ taken. bit_code e taken x) (V.bit around x)
  bit_does (Y.BitConstant true) st is = bit_does' 1 true (lit< tt) refl
  bit_does (Y.BitConstant false) st is = bit_does' 0 false (lit< tt) refl
  bit_does (Y.BitIn (Y.Referring w locator part subscripts)) st is =
      bit_part_does (Y.Referring w locator part subscripts) is.0 st (subscripts_do subscripts st is.1)
  bit_does (Y.Negated x) st is =
      operated_evaluates (bit_words x) (omega arith) (omega arith) (bit_does x st is) (λ b fits. negated_operates b)
  bit_does (Y.Combined Y.Conjunction left right) st is =
      both_evaluate st.temps (bit_words left) (bit_words right) (bit_does left st is.0) (bit_does right st is.1) (λ a b fa fb. and_operates a b)
  bit_does (Y.Combined Y.Disjunction left right) st is =
      both_evaluate st.temps (bit_words left) (bit_words right) (bit_does left st is.0) (bit_does right st is.1) (λ a b fa fb. or_operates a b)
  bit_does (Y.NumbersCompared comparison left right) st is =
      both_evaluate st.temps (number_words left) (number_words right) (number_does left st is.0) (number_does right st is.1)
      (λ x y wx wy. numbers_operate comparison x y wx wy)
  bit_does (Y.BitsCompared comparison left right) st is =
      both_evaluate st.temps (bit_words left) (bit_words right) (bit_does left st is.0) (bit_does right st is.1) (λ a b fa fb. bits_operate comparison a b)
  bit_does (Y.BitOfText x) {around = around} st is =
      one_finishes (text_does x st is) (λ text short. bit_finishes st.routines around st.serving text)
  bit_does (Y.TextsCompared comparison left right) {v = v} st is =
      two_finish (text_words left) (text_words right) (text_does left st is.0) (λ text. text_does right (above_texts (TextEntry text ∷ v.entries) st) is.1)
      (λ x y sx sy. compare_finishes comparison x y)
  bit_does (Y.BitFrom c) st is = absurd is
  bit_does (Y.PointersCompared equal left right) st is = absurd is
  bit_does (Y.OffsetsCompared equal left right) st is = absurd is

  pub text_does : (x : Y.Text) {links : Links} {code : List Instr} {g : Ground} {v : Services} {s : State} {k : ℕ} {e : Environment} {block : Names} {types : Types} {held : Values} {around : Around} → Setting links code g v s k e block types held around → IsProvedText block types x → EvaluatesText links code g v s k (text_words x) (λ taken. text_code e taken x) (V.text around x)
  text_does (Y.TextConstant bytes) st is = constant_evaluates bytes st.constants is
  text_does (Y.TextIn (Y.Referring w locator part subscripts)) st is =
      text_part_does (Y.Referring w locator part subscripts) is.0 st (subscripts_do subscripts st is.1)
  text_does (Y.TextOfNumber precision x) st is = number_evaluates_text precision is.0 (number_does x st is.1)
  text_does (Y.TextOfBit x) st is = bit_evaluates_text (bit_does x st is)
  text_does (Y.Joined left right) {v = v} {around = around} st is =
      joined_evaluates (text_words left) (text_words right) st.routines around st.serving (text_does left st is.0) (λ text. text_does right (above_texts (TextEntry text ∷ v.entries) st) is.1)
  text_does (Y.SubstringFrom x start) {v = v} {around = around} st is =
      from_evaluates (text_words x) (number_words start) st.routines around st.serving (text_does x st is.0) (λ text. number_does start (above_texts (TextEntry text ∷ v.entries) st) is.1)
  text_does (Y.Substring x start count) {v = v} {around = around} st is =
      part_evaluates st.temps (text_words x) (number_words start) (number_words count) st.routines around st.serving (text_does x st is.0)
      (λ text. number_does start (above_texts (TextEntry text ∷ v.entries) st) is.1.0) (λ text. number_does count (above_texts (TextEntry text ∷ v.entries) st) is.1.1)
  text_does (Y.TextFrom c) st is = absurd is

-- a number, wherever its code stands
pub number_piece : {links : Links} {code : List Instr} {i : ℕ} {g : Ground} {v : Services} {h t : ℕ → ℕ} {s : State}
    {aims : Aims ℤ} (x : Y.Number) (closed : Closed code aims) (routines : Routines links code)
    (constants : ConstantsStand links code g) (temps : Temporaries g) (e : Environment) (block : Names) (types : Types)
    (held : Values) (f : Family) (around : Around) (taken : Taken) (k : ℕ) → IsProvedNumber block types x
    → taken.words + number_words x ≤ g.words + spare taken → Scope g e block types s held
    → Linked links code i (number_code e taken x) → Serving k s v around.line
    → ((b : Base) → At b i (Known g v h t nothing b) (f b))
    → Valued number_kind g taken h t v s (i + size_of (number_code e taken x)) aims
    → Comes code i f v aims (V.number around x k s)
number_piece x closed routines constants temps e block types held f around taken k is room scope l serving at goal =
    (number_does x (record { routines = routines; constants = constants; temps = temps; scope = scope; serving = serving }) is).does closed f taken room l at goal
