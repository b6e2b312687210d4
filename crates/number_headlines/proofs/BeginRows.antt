-- The worked row with begin blocks: a program of the class, which is computed from its tree.
use Rattle.std.proofs.Common.{◌≡◌, ℕ, zero, suc, ◌^◌, ◌≤◌, ◌<◌, List, [], ◌∷◌, Some, None, refl, subst, inl, inr, arith}
use Rattle.std.specs.Prelude.{slice_get}
use Rattle.pli_language.specs.Formats.{Putting, format_moves_data, formats_move_data}
use Rattle.pli_language.specs.Tree as T
use Rattle.pli_typing.specs.TypedTree as Y
use Rattle.pli_meaning.specs.DeclaredShapes.{declared_variable}
use Rattle.pli_meaning.specs.declared.outcome.End.TheVariants as E
use Rattle.pli_meaning.specs.Control as F
use Rattle.pli_meaning.specs.Evaluating as V
use Rattle.pli_meaning.specs.Executing as M
use Rattle.pli_meaning.specs.Making as K
use Rattle.pli_meaning.specs.Placing as P
use Rattle.pli_meaning.specs.Raising as R
use Rattle.pli_meaning.specs.Streaming as S
use Rattle.pli_coding.specs.Images.{code_of, picture_of}
use Rattle.pli_coding.specs.Linking.{links_of}
use Rattle.well_formed_trees.specs.Blocks.{times}
use Rattle.well_formed_trees.specs.Declarations.{SoundVariable}
use Rattle.well_formed_trees.specs.Expressions.{SoundNumber}
use Rattle.well_formed_trees.specs.Ranges.{IsFormatList}
use Rattle.well_formed_trees.specs.References.{Designates, IsScalar}
use Rattle.well_formed_trees.specs.Statements.{SoundStmt, SoundStmts}
use Rattle.well_formed_trees.specs.Surroundings.{Around, IsAround, Returns, Table, Where}
use Rattle.well_formed_trees.specs.WellFormed.{AreNested, AreNumbered, DeclaresSound, IsBehind, IsEntry, IsWellFormed}
use Rattle.well_formed_trees.specs.WellFormed.{SoundProcedure}
use Rattle.storage_relation.proofs.Holders.{eqb-other}
use Rattle.run_steps.proofs.Linking.{linked_length}
use Rattle.expression_runs.specs.Assignments.{assignment}
use Rattle.expression_runs.specs.Variables.{Spot, number_declared, variable_of, whole}
use Rattle.pli_headline.specs.Headline.{FitsMemory, parts}
use Rattle.number_headlines.specs.BeginRows.{anew_body, anew_spot, begins_body, begins_main, begins_program}
use Rattle.number_headlines.specs.BeginRows.{deep_body, deep_spot, last_label, less_body, less_procedure, put_number}
use Rattle.number_headlines.specs.BeginRows.{recursion_body, recursion_procedure, sum_of, turn_spot, turns, twice_body}
use Rattle.number_headlines.specs.BeginRows.{twice_spot}
use Rattle.number_headlines.specs.CallRows.{head_at}
use Rattle.number_headlines.specs.Headlines.{IsNumberProgram}
use Rattle.number_headlines.specs.InitialRows.{number_items, value_of}
use Rattle.number_headlines.specs.NestRows.{nest_call, one_less}
use Rattle.number_headlines.specs.PutRows.{of_width}

-- ---- it is well formed

abbrev main_entry : Around
main_entry = record { number = 1; level = 0; outermost = []; inner = [] }

abbrev anew_entry : Around
anew_entry = record { number = 2; level = 1; outermost = []; inner = [] }

abbrev less_entry : Around
less_entry = record { number = 3; level = 2; outermost = []; inner = [] }

abbrev twice_entry : Around
twice_entry = record { number = 4; level = 2; outermost = last_label ∷ []; inner = [] }

abbrev recursion_entry : Around
recursion_entry = record { number = 5; level = 1; outermost = []; inner = [] }

abbrev deep_entry : Around
deep_entry = record { number = 6; level = 2; outermost = []; inner = [] }

abbrev table : Table
table =
    [] ∷ (main_entry ∷ []) ∷ (anew_entry ∷ main_entry ∷ []) ∷ (less_entry ∷ anew_entry ∷ main_entry ∷ [])
    ∷ (twice_entry ∷ anew_entry ∷ main_entry ∷ []) ∷ (recursion_entry ∷ main_entry ∷ [])
    ∷ (deep_entry ∷ recursion_entry ∷ main_entry ∷ []) ∷ []

abbrev in_blocks : List Around → Where
in_blocks around = record { program = begins_program; table = table; around = around; returning = Returns None }

abbrev in_main : Where
in_main = in_blocks (main_entry ∷ [])

abbrev in_anew : Where
in_anew = in_blocks (anew_entry ∷ main_entry ∷ [])

abbrev in_less : Where
in_less = in_blocks (less_entry ∷ anew_entry ∷ main_entry ∷ [])

abbrev in_twice : Where
in_twice = in_blocks (twice_entry ∷ anew_entry ∷ main_entry ∷ [])

abbrev in_deep : Where
in_deep = in_blocks (deep_entry ∷ recursion_entry ∷ main_entry ∷ [])

-- ---- variables

record Names (w : Where) (x : Spot) (initial : List T.InitialItem) : Type 0 where
  found : declared_variable w.program (variable_of x) ≡ Some (number_declared initial)
  around : IsAround x.block x.level w.around

abbrev designated : (w : Where) (x : Spot) (initial : List T.InitialItem) → Names w x initial → Designates w (whole x)
designated w x initial n = record {
  d = number_declared initial;
  declared = record { found = n.found; same_class = refl; block_around = n.around };
  dimensions = 0;
  member = record { place = 0; dimensions_are = refl; part_is = refl; some = omega arith; within = omega arith };
  subscripted = inl refl;
}

scalar :
    (w : Where) (x : Spot) (initial : List T.InitialItem) → Names w x initial →
    IsScalar w (Y.FixedLeaf 31) (whole x)
scalar w x initial n = record {
  designates = designated w x initial n;
  leaf = record { type = Y.FixedLeaf 31; bounds = []; initial = initial };
  one = record { one = refl; leaf_is = refl };
  type_is = refl;
  many = refl;
}

value : (w : Where) (x : Spot) (initial : List T.InitialItem) → Names w x initial → SoundNumber w (value_of x)
value w x initial n =
    (record { precision = 31; scalar = scalar w x initial n }, (designated w x initial n, (tt, (tt, tt))))

assigned :
    (w : Where) (x : Spot) (initial : List T.InitialItem) (source : Y.Number) (line : ℕ) → Names w x initial →
    SoundNumber w source → line < 2 ^ 31 → SoundStmt w (assignment x source line)
assigned w x initial source line n sound less = (
  record { type = Y.FixedLeaf 31; scalar = scalar w x initial n; fits = refl },
  (
    (designated w x initial n, (tt, (tt, tt))),
    (((omega arith, omega arith), sound), less),
  ),
)

in_main_turn : Names in_main turn_spot []
in_main_turn = record { found = refl; around = inl (refl, refl) }

in_anew_turn : Names in_anew turn_spot []
in_anew_turn = record { found = refl; around = inr (inl (refl, refl)) }

in_anew_own : Names in_anew anew_spot (number_items 10)
in_anew_own = record { found = refl; around = inl (refl, refl) }

in_less_anew : Names in_less anew_spot (number_items 10)
in_less_anew = record { found = refl; around = inr (inl (refl, refl)) }

in_twice_turn : Names in_twice turn_spot []
in_twice_turn = record { found = refl; around = inr (inr (inl (refl, refl))) }

in_twice_anew : Names in_twice anew_spot (number_items 10)
in_twice_anew = record { found = refl; around = inr (inl (refl, refl)) }

in_twice_own : Names in_twice twice_spot []
in_twice_own = record { found = refl; around = inl (refl, refl) }

in_deep_turn : Names in_deep turn_spot []
in_deep_turn = record { found = refl; around = inr (inr (inl (refl, refl))) }

in_deep_own : Names in_deep deep_spot []
in_deep_own = record { found = refl; around = inl (refl, refl) }

-- ---- calls, and what is written

calls_less : SoundStmt in_twice (nest_call 3 1 7)
calls_less = (
  (less_procedure, refl, refl),
  (
    (
      record {
        procedure = less_procedure;
        is = record {
          found = refl;
          level_is = refl;
          kind = refl;
          own = less_entry;
          holder = anew_entry;
          outer = main_entry ∷ [];
          entry = refl;
          holder_around = inr (inl (refl, refl));
        };
        passed = tt;
      },
      tt,
    ),
    omega arith,
  ),
)

main_calls : SoundStmt in_main (nest_call 5 0 12)
main_calls = (
  (recursion_procedure, refl, refl),
  (
    (
      record {
        procedure = recursion_procedure;
        is = record {
          found = refl;
          level_is = refl;
          kind = refl;
          own = recursion_entry;
          holder = main_entry;
          outer = [];
          entry = refl;
          holder_around = inl (refl, refl);
        };
        passed = tt;
      },
      tt,
    ),
    omega arith,
  ),
)

deep_calls : SoundStmt in_deep (nest_call 5 0 14)
deep_calls = (
  (recursion_procedure, refl, refl),
  (
    (
      record {
        procedure = recursion_procedure;
        is = record {
          found = refl;
          level_is = refl;
          kind = refl;
          own = recursion_entry;
          holder = main_entry;
          outer = [];
          entry = refl;
          holder_around = inr (inr (inl (refl, refl)));
        };
        passed = tt;
      },
      tt,
    ),
    omega arith,
  ),
)

three_wide : IsFormatList Putting (of_width 8 3 T.NoFormat)
unfolding formats_move_data format_moves_data
three_wide = record {
  formats_are = ((omega arith, omega arith), ((omega arith, omega arith), tt));
  moves_data = refl;
}

two_wide : IsFormatList Putting (of_width 14 2 T.NoFormat)
unfolding formats_move_data format_moves_data
two_wide = record {
  formats_are = ((omega arith, omega arith), ((omega arith, omega arith), tt));
  moves_data = refl;
}

written :
    (w : Where) (x : Spot) (line width : ℕ) → IsFormatList Putting (of_width line width T.NoFormat) → Names w x [] →
    line < 2 ^ 31 → SoundStmt w (put_number x line width)
written w x line width formats n less =
    (tt, (((formats, (((omega arith, omega arith), value w x [] n), tt)), tt), less))

-- ---- begin blocks

twice_sound : SoundStmts in_twice twice_body
twice_sound = (
  assigned in_twice twice_spot [] (sum_of (value_of anew_spot) (value_of anew_spot)) 7 in_twice_own (
    value in_twice anew_spot (number_items 10) in_twice_anew,
    value in_twice anew_spot (number_items 10) in_twice_anew,
  ) (omega arith),
  (
    calls_less,
    (
      (
        (value in_twice turn_spot [] in_twice_turn, omega arith),
        ((inl (refl, refl), omega arith), omega arith),
      ),
      (
        assigned in_twice twice_spot [] (sum_of (value_of twice_spot) (value_of anew_spot)) 7 in_twice_own
            (value in_twice twice_spot [] in_twice_own, value in_twice anew_spot (number_items 10) in_twice_anew)
            (omega arith),
        (written in_twice twice_spot 8 3 three_wide in_twice_own (omega arith), tt),
      ),
    ),
  ),
)

anew_sound : SoundStmts in_anew anew_body
anew_sound = (
  assigned in_anew anew_spot (number_items 10) (sum_of (value_of anew_spot) (value_of turn_spot)) 5 in_anew_own
      (value in_anew anew_spot (number_items 10) in_anew_own, value in_anew turn_spot [] in_anew_turn) (omega arith),
  (
    ((refl, (record { line = omega arith; level = refl }, refl)), twice_sound),
    tt,
  ),
)

deep_sound : SoundStmts in_deep deep_body
deep_sound = (
  assigned in_deep deep_spot [] (value_of turn_spot) 14 in_deep_own (value in_deep turn_spot [] in_deep_turn)
      (omega arith),
  (
    (
      (value in_deep turn_spot [] in_deep_turn, omega arith),
      ((refl, omega arith), omega arith),
    ),
    (
      assigned in_deep turn_spot [] (one_less (value_of turn_spot)) 14 in_deep_turn
          (value in_deep turn_spot [] in_deep_turn, omega arith) (omega arith),
      (deep_calls, (written in_deep deep_spot 14 2 two_wide in_deep_own (omega arith), tt)),
    ),
  ),
)

-- ---- procedures

turns_sound : SoundStmt in_main turns
turns_sound = (
  (
    (scalar in_main turn_spot [] in_main_turn, (designated in_main turn_spot [] in_main_turn, (tt, (tt, tt)))),
    (((omega arith, omega arith), omega arith), (omega arith, omega arith)),
  ),
  (
    tt,
    (
      (((refl, (record { line = omega arith; level = refl }, refl)), anew_sound), tt),
      omega arith,
    ),
  ),
)

main_sound : SoundProcedure table begins_program begins_main
main_sound = record {
  head = head_at 1 0 1;
  body = begins_body;
  is = refl;
  kind = refl;
  line = omega arith;
  outer = [];
  held = refl;
  listed = refl;
  statements = (turns_sound, (main_calls, tt));
  labels = (tt, (((tt, (tt, (((refl, tt), (tt, (tt, (tt, (tt, (tt, tt)))))), tt))), tt), (tt, tt)));
  parameters = tt;
  apart = tt;
  result = tt;
}

less_sound : SoundProcedure table begins_program less_procedure
less_sound = record {
  head = head_at 3 2 4;
  body = less_body;
  is = refl;
  kind = refl;
  line = omega arith;
  outer = anew_entry ∷ main_entry ∷ [];
  held = (refl, refl);
  listed = refl;
  statements = (
    assigned in_less anew_spot (number_items 10) (one_less (value_of anew_spot)) 4 in_less_anew
        (value in_less anew_spot (number_items 10) in_less_anew, omega arith) (omega arith),
    tt,
  );
  labels = (tt, (tt, tt));
  parameters = tt;
  apart = tt;
  result = tt;
}

recursion_sound : SoundProcedure table begins_program recursion_procedure
recursion_sound = record {
  head = head_at 5 1 13;
  body = recursion_body;
  is = refl;
  kind = refl;
  line = omega arith;
  outer = main_entry ∷ [];
  held = (refl, refl);
  listed = refl;
  statements = (((refl, (record { line = omega arith; level = refl }, refl)), deep_sound), tt);
  labels = (tt, ((tt, (tt, (tt, (tt, (tt, (tt, tt)))))), tt));
  parameters = tt;
  apart = tt;
  result = tt;
}

-- ---- blocks

begins_entries : (number : ℕ) → 1 ≤ number → number < 7 → IsEntry table number
begins_entries zero low high = absurd (omega (arith, low))
begins_entries (suc zero) low high =
    record { own = main_entry; outer = []; entry = refl; number_is = refl; shallow = omega arith }
begins_entries (suc (suc zero)) low high =
    record { own = anew_entry; outer = main_entry ∷ []; entry = refl; number_is = refl; shallow = omega arith }
begins_entries (suc (suc (suc zero))) low high =
    record {
      own = less_entry;
      outer = anew_entry ∷ main_entry ∷ [];
      entry = refl;
      number_is = refl;
      shallow = omega arith;
    }
begins_entries (suc (suc (suc (suc zero)))) low high =
    record {
      own = twice_entry;
      outer = anew_entry ∷ main_entry ∷ [];
      entry = refl;
      number_is = refl;
      shallow = omega arith;
    }
begins_entries (suc (suc (suc (suc (suc zero))))) low high =
    record { own = recursion_entry; outer = main_entry ∷ []; entry = refl; number_is = refl; shallow = omega arith }
begins_entries (suc (suc (suc (suc (suc (suc zero)))))) low high =
    record {
      own = deep_entry;
      outer = recursion_entry ∷ main_entry ∷ [];
      entry = refl;
      number_is = refl;
      shallow = omega arith;
    }
begins_entries (suc (suc (suc (suc (suc (suc (suc n))))))) low high = absurd (omega (arith, high))

-- between the main procedure and one in it stand none of its level
none_between :
    (m : ℕ) (a : Around) (more : List Around) → 1 < m → slice_get table m ≡ Some (a ∷ more) → 0 < a.level
none_between zero a more low e = absurd (omega (arith, low))
none_between (suc zero) a more low e = absurd (omega (arith, low))
none_between (suc (suc zero)) a more low e =
    let is : anew_entry ≡ a = cc e in
    subst (λ (x : Around). 0 < x.level) is (omega arith)
none_between (suc (suc (suc zero))) a more low e =
    let is : less_entry ≡ a = cc e in
    subst (λ (x : Around). 0 < x.level) is (omega arith)
none_between (suc (suc (suc (suc zero)))) a more low e =
    let is : twice_entry ≡ a = cc e in
    subst (λ (x : Around). 0 < x.level) is (omega arith)
none_between (suc (suc (suc (suc (suc zero))))) a more low e =
    let is : recursion_entry ≡ a = cc e in
    subst (λ (x : Around). 0 < x.level) is (omega arith)
none_between (suc (suc (suc (suc (suc (suc zero)))))) a more low e =
    let is : deep_entry ≡ a = cc e in
    subst (λ (x : Around). 0 < x.level) is (omega arith)
none_between (suc (suc (suc (suc (suc (suc (suc n))))))) a more low e = absurd (cc e)

-- nor of level 1 between the first begin block and what stands in it
anew_between :
    (m : ℕ) (a : Around) (more : List Around) → 2 < m → m ≤ 4 → slice_get table m ≡ Some (a ∷ more) → 1 < a.level
anew_between zero a more low within e = absurd (omega (arith, low))
anew_between (suc zero) a more low within e = absurd (omega (arith, low))
anew_between (suc (suc zero)) a more low within e = absurd (omega (arith, low))
anew_between (suc (suc (suc zero))) a more low within e =
    let is : less_entry ≡ a = cc e in
    subst (λ (x : Around). 1 < x.level) is (omega arith)
anew_between (suc (suc (suc (suc zero)))) a more low within e =
    let is : twice_entry ≡ a = cc e in
    subst (λ (x : Around). 1 < x.level) is (omega arith)
anew_between (suc (suc (suc (suc (suc n))))) a more low within e = absurd (omega (arith, within))

-- nor between the procedure and the begin block in it
deep_between :
    (m : ℕ) (a : Around) (more : List Around) → 5 < m → m ≤ 6 → slice_get table m ≡ Some (a ∷ more) → 1 < a.level
deep_between m a more low within e =
    let same : m ≡ 6 = omega (arith, low, within) in
    let there : Some (deep_entry ∷ recursion_entry ∷ main_entry ∷ []) ≡ Some (a ∷ more) =
    subst (λ n. slice_get table n ≡ Some (a ∷ more)) same e in
    let is : deep_entry ≡ a = cc there in
    subst (λ (x : Around). 1 < x.level) is (omega arith)

begins_nested : AreNested table
begins_nested zero own outer e = absurd (cc e)
begins_nested (suc zero) own outer e =
    let is : [] ≡ outer = cc e in
    subst (λ os. IsBehind table 1 os) is tt
begins_nested (suc (suc zero)) own outer e =
    let is : main_entry ∷ [] ≡ outer = cc e in
    subst (λ os. IsBehind table 2 os) is (omega arith, λ m a more low high at. none_between m a more low at)
begins_nested (suc (suc (suc zero))) own outer e =
    let is : anew_entry ∷ main_entry ∷ [] ≡ outer = cc e in
    subst (λ os. IsBehind table 3 os) is
    (omega arith, λ m a more low high at. anew_between m a more low (omega (arith, high)) at)
begins_nested (suc (suc (suc (suc zero)))) own outer e =
    let is : anew_entry ∷ main_entry ∷ [] ≡ outer = cc e in
    subst (λ os. IsBehind table 4 os) is (omega arith, λ m a more low high at. anew_between m a more low high at)
begins_nested (suc (suc (suc (suc (suc zero))))) own outer e =
    let is : main_entry ∷ [] ≡ outer = cc e in
    subst (λ os. IsBehind table 5 os) is (omega arith, λ m a more low high at. none_between m a more low at)
begins_nested (suc (suc (suc (suc (suc (suc zero)))))) own outer e =
    let is : recursion_entry ∷ main_entry ∷ [] ≡ outer = cc e in
    subst (λ os. IsBehind table 6 os) is (omega arith, λ m a more low high at. deep_between m a more low high at)
begins_nested (suc (suc (suc (suc (suc (suc (suc n))))))) own outer e = absurd (cc e)

begins_numbers : AreNumbered 7 (1 ∷ 2 ∷ 4 ∷ 3 ∷ 5 ∷ 6 ∷ [])
begins_numbers = record { once = once; none = none; not_outermost = refl }
  where
    once : (n : ℕ) → 1 ≤ n → n < 7 → times n (1 ∷ 2 ∷ 4 ∷ 3 ∷ 5 ∷ 6 ∷ []) ≡ 1
    once zero low high = absurd (omega (arith, low))
    once (suc zero) low high = refl
    once (suc (suc zero)) low high = refl
    once (suc (suc (suc zero))) low high = refl
    once (suc (suc (suc (suc zero)))) low high = refl
    once (suc (suc (suc (suc (suc zero))))) low high = refl
    once (suc (suc (suc (suc (suc (suc zero)))))) low high = refl
    once (suc (suc (suc (suc (suc (suc (suc n))))))) low high = absurd (omega (arith, high))

    none : (n : ℕ) → 7 ≤ n → times n (1 ∷ 2 ∷ 4 ∷ 3 ∷ 5 ∷ 6 ∷ []) ≡ 0
    none n low =
        simp (
          eqb-other n 1 (λ e. omega (arith, e, low)),
          eqb-other n 2 (λ e. omega (arith, e, low)),
          eqb-other n 4 (λ e. omega (arith, e, low)),
          eqb-other n 3 (λ e. omega (arith, e, low)),
          eqb-other n 5 (λ e. omega (arith, e, low)),
          eqb-other n 6 (λ e. omega (arith, e, low)),
        ) refl

number_sound : (w : Where) → SoundVariable w 0 (number_declared [])
number_sound w = record {
  members = (refl, tt);
  many = refl;
  dimensions = (refl, tt);
  leaves = (record { type_is = (omega arith, omega arith); bounds_are = tt; few = omega arith; initial_is = tt }, tt);
  areas = inl (tt, tt);
  refer = tt;
  kept = ((λ k. k, tt), tt);
  evaluations = tt;
}

given_sound : (w : Where) → SoundVariable w 0 (number_declared (number_items 10))
given_sound w = record {
  members = (refl, tt);
  many = refl;
  dimensions = (refl, tt);
  leaves = (
    record {
      type_is = (omega arith, omega arith);
      bounds_are = tt;
      few = omega arith;
      initial_is = ((omega arith, refl), tt);
    },
    tt,
  );
  areas = inl (tt, tt);
  refer = tt;
  kept = ((λ k. k, tt), tt);
  evaluations = tt;
}

begins_declares : (number : ℕ) → DeclaresSound table begins_program number
begins_declares zero around e = tt
begins_declares (suc zero) around e = (number_sound _, tt)
begins_declares (suc (suc zero)) around e = (given_sound _, tt)
begins_declares (suc (suc (suc zero))) around e = tt
begins_declares (suc (suc (suc (suc zero)))) around e = (number_sound _, tt)
begins_declares (suc (suc (suc (suc (suc zero))))) around e = tt
begins_declares (suc (suc (suc (suc (suc (suc zero)))))) around e = (number_sound _, tt)
begins_declares (suc (suc (suc (suc (suc (suc (suc n))))))) around e = absurd (cc e)

begins_well : IsWellFormed begins_program
begins_well = record {
  table = table;
  main = (refl, (refl, (omega arith, (omega arith, tt))));
  numbers = begins_numbers;
  entries = begins_entries;
  nested = begins_nested;
  procedures = (main_sound, (less_sound, (recursion_sound, tt)));
  lists = refl;
  outermost = refl;
  variables = begins_declares;
}

-- ---- it is of the class

pub begins_program_is : IsNumberProgram begins_program
begins_program_is = record { well_formed = begins_well; numbers = refl }

pub begins_fit : FitsMemory (picture_of parts begins_program)
begins_fit =
    let n = linked_length (links_of (code_of parts begins_program)) 0 (code_of parts begins_program) in
    record { code_fits = omega (arith, n); statics_fit = omega arith }

-- ---- what it comes to

unfoldable flows : Unit {0}
unfolding F.give F.◌>>=◌ F.◌>>◌ F.looked F.stored F.act F.finish F.returns F.jumps F.choose F.given F.list_from
    F.leaving F.repeated_while M.met_after_act
flows = tt

unfoldable values : Unit {0}
unfolding V.number V.bit V.designated V.located V.numbers V.variable_designated V.part_designated V.stored_value
    R.or_error R.demanded R.value_of R.raised R.unit_run R.error R.error_unit_run P.element_stored M.assigned
    V.computational
values = tt

unfoldable writings : Unit {0}
unfolding S.put S.pairs_put S.items_put S.item_put S.next_item S.controls S.control_put S.shown_by
writings = tt

unfoldable calls : Unit {0}
unfolding V.called V.all_passed_last V.procedure_entered V.returned
calls = tt

unfoldable makings : Unit {0}
unfolding K.variables_made K.automatic_made K.extents K.variable_made K.parameters_bound
makings = tt

unfoldable statements : Unit {0}
unfolding M.statement M.statements M.list M.list_with M.block_variables_made M.entry_act M.block_list M.block_body
    M.turn_due M.within_limit M.condition_met M.counter_number M.counter_value M.counter_started M.stepped M.limit_of
statements = tt

pub begins_end :
    (input : List ℕ) →
    M.meaning begins_program input 58
    ≡ Some (record {
      acts = 58;
      output = 32 ∷ 50 ∷ 50 ∷ 32 ∷ 51 ∷ 53 ∷ 32 ∷ 49 ∷ 32 ∷ 50 ∷ 32 ∷ 51 ∷ 10 ∷ [];
      raised = [];
      end = E.Finished;
    })
unfolding M.meaning M.run M.entered M.block_run flows values writings calls makings statements
begins_end input = refl
