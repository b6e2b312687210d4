-- The worked row of nested and recursive calls: a program of the class, which is computed from its tree.
use Rattle.std.proofs.Common.{◌≡◌, ℕ, zero, suc, ◌^◌, ◌≤◌, ◌<◌, List, [], ◌∷◌, Some, None, refl, subst, inl, inr, arith}
use Rattle.std.specs.Prelude.{slice_get}
use Rattle.pli_typing.specs.TypedTree as Y
use Rattle.pli_meaning.specs.DeclaredShapes.{declared_variable}
use Rattle.pli_meaning.specs.declared.outcome.End.TheVariants as E
use Rattle.pli_meaning.specs.Control as F
use Rattle.pli_meaning.specs.Evaluating as V
use Rattle.pli_meaning.specs.Executing as M
use Rattle.pli_meaning.specs.Making as K
use Rattle.pli_meaning.specs.Placing as P
use Rattle.pli_meaning.specs.Raising as R
use Rattle.pli_coding.specs.Images.{code_of, picture_of}
use Rattle.pli_coding.specs.Linking.{links_of}
use Rattle.well_formed_trees.specs.Blocks.{times}
use Rattle.well_formed_trees.specs.Declarations.{SoundVariable}
use Rattle.well_formed_trees.specs.Expressions.{SoundNumber}
use Rattle.well_formed_trees.specs.References.{Designates, IsScalar}
use Rattle.well_formed_trees.specs.Statements.{SoundStmt}
use Rattle.well_formed_trees.specs.Surroundings.{Around, IsAround, Returns, Table, Where}
use Rattle.well_formed_trees.specs.WellFormed.{AreNested, AreNumbered, DeclaresSound, IsBehind, IsEntry, IsWellFormed}
use Rattle.well_formed_trees.specs.WellFormed.{SoundProcedure}
use Rattle.storage_relation.proofs.Holders.{eqb-other}
use Rattle.run_steps.proofs.Linking.{linked_length}
use Rattle.expression_runs.specs.Variables.{Spot, number_declared, variable_of, whole}
use Rattle.pli_headline.specs.Headline.{FitsMemory, parts}
use Rattle.number_headlines.specs.CallRows.{head_at}
use Rattle.number_headlines.specs.Headlines.{IsNumberProgram}
use Rattle.number_headlines.specs.NestRows.{again_body, again_function, count_spot, count_value, fewer_body}
use Rattle.number_headlines.specs.NestRows.{fewer_procedure, kept_spot, kept_value, nest_body, nest_call, nest_main}
use Rattle.number_headlines.specs.NestRows.{nest_program, other_body, other_procedure, within_body, within_procedure}
use Rattle.number_headlines.specs.NestRows.{again_value}

-- ---- it is well formed

abbrev main_entry : Around
main_entry = record { number = 1; level = 0; outermost = []; inner = [] }

abbrev fewer_entry : Around
fewer_entry = record { number = 2; level = 1; outermost = []; inner = [] }

abbrev other_entry : Around
other_entry = record { number = 3; level = 1; outermost = []; inner = [] }

abbrev within_entry : Around
within_entry = record { number = 4; level = 2; outermost = []; inner = [] }

abbrev again_entry : Around
again_entry = record { number = 5; level = 1; outermost = []; inner = [] }

abbrev table : Table
table =
    [] ∷ (main_entry ∷ []) ∷ (fewer_entry ∷ main_entry ∷ []) ∷ (other_entry ∷ main_entry ∷ [])
    ∷ (within_entry ∷ other_entry ∷ main_entry ∷ []) ∷ (again_entry ∷ main_entry ∷ []) ∷ []

abbrev in_main : Where
in_main = record { program = nest_program; table = table; around = main_entry ∷ []; returning = Returns None }

abbrev in_fewer : Where
in_fewer =
    record {
      program = nest_program;
      table = table;
      around = fewer_entry ∷ main_entry ∷ [];
      returning = Returns None;
    }

abbrev in_other : Where
in_other =
    record {
      program = nest_program;
      table = table;
      around = other_entry ∷ main_entry ∷ [];
      returning = Returns None;
    }

abbrev in_within : Where
in_within =
    record {
      program = nest_program;
      table = table;
      around = within_entry ∷ other_entry ∷ main_entry ∷ [];
      returning = Returns None;
    }

abbrev in_again : Where
in_again =
    record {
      program = nest_program;
      table = table;
      around = again_entry ∷ main_entry ∷ [];
      returning = Returns (Some (Y.FixedLeaf 31));
    }

-- ---- variables

record Names (w : Where) (x : Spot) : Type 0 where
  found : declared_variable w.program (variable_of x) ≡ Some (number_declared [])
  around : IsAround x.block x.level w.around

abbrev designated : (w : Where) (x : Spot) → Names w x → Designates w (whole x)
designated w x n = record {
  d = number_declared [];
  declared = record { found = n.found; same_class = refl; block_around = n.around };
  dimensions = 0;
  member = record { place = 0; dimensions_are = refl; part_is = refl; some = omega arith; within = omega arith };
  subscripted = inl refl;
}

scalar : (w : Where) (x : Spot) → Names w x → IsScalar w (Y.FixedLeaf 31) (whole x)
scalar w x n = record {
  designates = designated w x n;
  leaf = record { type = Y.FixedLeaf 31; bounds = []; initial = [] };
  one = record { one = refl; leaf_is = refl };
  type_is = refl;
  many = refl;
}

value : (w : Where) (x : Spot) → Names w x → SoundNumber w (Y.NumberIn (whole x))
value w x n = (record { precision = 31; scalar = scalar w x n }, (designated w x n, (tt, (tt, tt))))

assigned :
    (w : Where) (x : Spot) (source : Y.Number) (line : ℕ) → Names w x → SoundNumber w source → line < 2 ^ 31 →
    SoundStmt w (Y.Assign (whole x) (Y.StoredNumber 31 source) line)
assigned w x source line n sound less = (
  record { type = Y.FixedLeaf 31; scalar = scalar w x n; fits = refl },
  (
    (designated w x n, (tt, (tt, tt))),
    (((omega arith, omega arith), sound), less),
  ),
)

in_main_count : Names in_main count_spot
in_main_count = record { found = refl; around = inl (refl, refl) }

in_fewer_count : Names in_fewer count_spot
in_fewer_count = record { found = refl; around = inr (inl (refl, refl)) }

in_other_count : Names in_other count_spot
in_other_count = record { found = refl; around = inr (inl (refl, refl)) }

in_other_kept : Names in_other kept_spot
in_other_kept = record { found = refl; around = inl (refl, refl) }

in_within_count : Names in_within count_spot
in_within_count = record { found = refl; around = inr (inr (inl (refl, refl))) }

in_within_kept : Names in_within kept_spot
in_within_kept = record { found = refl; around = inr (inl (refl, refl)) }

in_again_count : Names in_again count_spot
in_again_count = record { found = refl; around = inr (inl (refl, refl)) }

-- ---- calls

main_calls_fewer : SoundStmt in_main (nest_call 2 0 8)
main_calls_fewer = (
  (fewer_procedure, refl, refl),
  (
    (
      record {
        procedure = fewer_procedure;
        is = record {
          found = refl;
          level_is = refl;
          kind = refl;
          own = fewer_entry;
          holder = main_entry;
          outer = [];
          entry = refl;
          holder_around = inl (refl, refl);
        };
        passed = tt;
      },
      tt,
    ),
    omega arith,
  ),
)

other_calls_fewer : SoundStmt in_other (nest_call 2 0 5)
other_calls_fewer = (
  (fewer_procedure, refl, refl),
  (
    (
      record {
        procedure = fewer_procedure;
        is = record {
          found = refl;
          level_is = refl;
          kind = refl;
          own = fewer_entry;
          holder = main_entry;
          outer = [];
          entry = refl;
          holder_around = inr (inl (refl, refl));
        };
        passed = tt;
      },
      tt,
    ),
    omega arith,
  ),
)

fewer_calls_other : SoundStmt in_fewer (nest_call 3 0 2)
fewer_calls_other = (
  (other_procedure, refl, refl),
  (
    (
      record {
        procedure = other_procedure;
        is = record {
          found = refl;
          level_is = refl;
          kind = refl;
          own = other_entry;
          holder = main_entry;
          outer = [];
          entry = refl;
          holder_around = inr (inl (refl, refl));
        };
        passed = tt;
      },
      tt,
    ),
    omega arith,
  ),
)

other_calls_within : SoundStmt in_other (nest_call 4 1 5)
other_calls_within = (
  (within_procedure, refl, refl),
  (
    (
      record {
        procedure = within_procedure;
        is = record {
          found = refl;
          level_is = refl;
          kind = refl;
          own = within_entry;
          holder = other_entry;
          outer = main_entry ∷ [];
          entry = refl;
          holder_around = inl (refl, refl);
        };
        passed = tt;
      },
      tt,
    ),
    omega arith,
  ),
)

main_calls_again : SoundNumber in_main again_value
main_calls_again = (
  (again_function, refl, tt),
  (
    record {
      procedure = again_function;
      is = record {
        found = refl;
        level_is = refl;
        kind = refl;
        own = again_entry;
        holder = main_entry;
        outer = [];
        entry = refl;
        holder_around = inl (refl, refl);
      };
      passed = tt;
    },
    tt,
  ),
)

calls_again : SoundNumber in_again again_value
calls_again = (
  (again_function, refl, tt),
  (
    record {
      procedure = again_function;
      is = record {
        found = refl;
        level_is = refl;
        kind = refl;
        own = again_entry;
        holder = main_entry;
        outer = [];
        entry = refl;
        holder_around = inr (inl (refl, refl));
      };
      passed = tt;
    },
    tt,
  ),
)

-- ---- procedures

main_sound : SoundProcedure table nest_program nest_main
main_sound = record {
  head = head_at 1 0 1;
  body = nest_body;
  is = refl;
  kind = refl;
  line = omega arith;
  outer = [];
  held = refl;
  listed = refl;
  statements = (
    assigned in_main count_spot (Y.NumberConstant 4) 8 in_main_count (omega arith) (omega arith),
    (
      main_calls_fewer,
      (
        assigned in_main count_spot (Y.NumberConstant 2) 8 in_main_count (omega arith) (omega arith),
        (assigned in_main count_spot again_value 8 in_main_count main_calls_again (omega arith), tt),
      ),
    ),
  );
  labels = (tt, (tt, (tt, (tt, (tt, tt)))));
  parameters = tt;
  apart = tt;
  result = tt;
}

fewer_sound : SoundProcedure table nest_program fewer_procedure
fewer_sound = record {
  head = head_at 2 1 2;
  body = fewer_body;
  is = refl;
  kind = refl;
  line = omega arith;
  outer = main_entry ∷ [];
  held = (refl, refl);
  listed = refl;
  statements = (
    assigned in_fewer count_spot (Y.Calculated Y.Difference count_value (Y.NumberConstant 1)) 2 in_fewer_count
        (value in_fewer count_spot in_fewer_count, omega arith) (omega arith),
    (((omega arith, value in_fewer count_spot in_fewer_count), (fewer_calls_other, omega arith)), tt),
  );
  labels = (tt, (tt, (tt, tt)));
  parameters = tt;
  apart = tt;
  result = tt;
}

other_sound : SoundProcedure table nest_program other_procedure
other_sound = record {
  head = head_at 3 1 3;
  body = other_body;
  is = refl;
  kind = refl;
  line = omega arith;
  outer = main_entry ∷ [];
  held = (refl, refl);
  listed = refl;
  statements = (
    assigned in_other kept_spot count_value 5 in_other_kept (value in_other count_spot in_other_count) (omega arith),
    (other_calls_within, (other_calls_fewer, tt)),
  );
  labels = (tt, (tt, (tt, (tt, tt))));
  parameters = tt;
  apart = tt;
  result = tt;
}

within_sound : SoundProcedure table nest_program within_procedure
within_sound = record {
  head = head_at 4 2 4;
  body = within_body;
  is = refl;
  kind = refl;
  line = omega arith;
  outer = other_entry ∷ main_entry ∷ [];
  held = (refl, refl);
  listed = refl;
  statements = (
    assigned in_within count_spot (Y.Calculated Y.Difference kept_value (Y.NumberConstant 1)) 4 in_within_count
        (value in_within kept_spot in_within_kept, omega arith) (omega arith),
    tt,
  );
  labels = (tt, (tt, tt));
  parameters = tt;
  apart = tt;
  result = tt;
}

again_sound : SoundProcedure table nest_program again_function
again_sound = record {
  head = head_at 5 1 7;
  body = again_body;
  is = refl;
  kind = refl;
  line = omega arith;
  outer = main_entry ∷ [];
  held = (refl, refl);
  listed = refl;
  statements = (
    (
      (value in_again count_spot in_again_count, omega arith),
      (
        (
          refl,
          (refl, (((omega arith, omega arith), value in_again count_spot in_again_count), omega arith)),
        ),
        omega arith,
      ),
    ),
    (
      assigned in_again count_spot (Y.Calculated Y.Difference count_value (Y.NumberConstant 1)) 7 in_again_count
          (value in_again count_spot in_again_count, omega arith) (omega arith),
      (
        (refl, (refl, (((omega arith, omega arith), (calls_again, omega arith)), omega arith))),
        tt,
      ),
    ),
  );
  labels = (tt, (tt, (tt, (tt, tt))));
  parameters = tt;
  apart = tt;
  result = (omega arith, omega arith);
}

-- ---- blocks

nest_entries : (number : ℕ) → 1 ≤ number → number < 6 → IsEntry table number
nest_entries zero low high = absurd (omega (arith, low))
nest_entries (suc zero) low high =
    record { own = main_entry; outer = []; entry = refl; number_is = refl; shallow = omega arith }
nest_entries (suc (suc zero)) low high =
    record { own = fewer_entry; outer = main_entry ∷ []; entry = refl; number_is = refl; shallow = omega arith }
nest_entries (suc (suc (suc zero))) low high =
    record { own = other_entry; outer = main_entry ∷ []; entry = refl; number_is = refl; shallow = omega arith }
nest_entries (suc (suc (suc (suc zero)))) low high =
    record {
      own = within_entry;
      outer = other_entry ∷ main_entry ∷ [];
      entry = refl;
      number_is = refl;
      shallow = omega arith;
    }
nest_entries (suc (suc (suc (suc (suc zero))))) low high =
    record { own = again_entry; outer = main_entry ∷ []; entry = refl; number_is = refl; shallow = omega arith }
nest_entries (suc (suc (suc (suc (suc (suc n)))))) low high = absurd (omega (arith, high))

-- between the main procedure and one in it stand none of its level
none_between :
    (high m : ℕ) (a : Around) (more : List Around) → high < 6 → 1 < m → m ≤ high →
    slice_get table m ≡ Some (a ∷ more) → 0 < a.level
none_between high zero a more few low within e = absurd (omega (arith, low))
none_between high (suc zero) a more few low within e = absurd (omega (arith, low))
none_between high (suc (suc zero)) a more few low within e =
    let is : fewer_entry ≡ a = cc e in
    subst (λ (x : Around). 0 < x.level) is (omega arith)
none_between high (suc (suc (suc zero))) a more few low within e =
    let is : other_entry ≡ a = cc e in
    subst (λ (x : Around). 0 < x.level) is (omega arith)
none_between high (suc (suc (suc (suc zero)))) a more few low within e =
    let is : within_entry ≡ a = cc e in
    subst (λ (x : Around). 0 < x.level) is (omega arith)
none_between high (suc (suc (suc (suc (suc zero))))) a more few low within e =
    let is : again_entry ≡ a = cc e in
    subst (λ (x : Around). 0 < x.level) is (omega arith)
none_between high (suc (suc (suc (suc (suc (suc n)))))) a more few low within e =
    absurd (omega (arith, few, within))

-- and none of level 1 between the second one in it and the one inside that
next_between :
    (m : ℕ) (a : Around) (more : List Around) → 3 < m → m ≤ 4 → slice_get table m ≡ Some (a ∷ more) → 1 < a.level
next_between zero a more low within e = absurd (omega (arith, low))
next_between (suc zero) a more low within e = absurd (omega (arith, low))
next_between (suc (suc zero)) a more low within e = absurd (omega (arith, low))
next_between (suc (suc (suc zero))) a more low within e = absurd (omega (arith, low))
next_between (suc (suc (suc (suc zero)))) a more low within e =
    let is : within_entry ≡ a = cc e in
    subst (λ (x : Around). 1 < x.level) is (omega arith)
next_between (suc (suc (suc (suc (suc n))))) a more low within e = absurd (omega (arith, within))

nest_nested : AreNested table
nest_nested zero own outer e = absurd (cc e)
nest_nested (suc zero) own outer e =
    let is : [] ≡ outer = cc e in
    subst (λ os. IsBehind table 1 os) is tt
nest_nested (suc (suc zero)) own outer e =
    let is : main_entry ∷ [] ≡ outer = cc e in
    subst (λ os. IsBehind table 2 os) is
    (omega arith, λ m a more low high at. none_between 2 m a more (omega arith) low high at)
nest_nested (suc (suc (suc zero))) own outer e =
    let is : main_entry ∷ [] ≡ outer = cc e in
    subst (λ os. IsBehind table 3 os) is
    (omega arith, λ m a more low high at. none_between 3 m a more (omega arith) low high at)
nest_nested (suc (suc (suc (suc zero)))) own outer e =
    let is : other_entry ∷ main_entry ∷ [] ≡ outer = cc e in
    subst (λ os. IsBehind table 4 os) is
    (omega arith, λ m a more low high at. next_between m a more low high at)
nest_nested (suc (suc (suc (suc (suc zero))))) own outer e =
    let is : main_entry ∷ [] ≡ outer = cc e in
    subst (λ os. IsBehind table 5 os) is
    (omega arith, λ m a more low high at. none_between 5 m a more (omega arith) low high at)
nest_nested (suc (suc (suc (suc (suc (suc n)))))) own outer e = absurd (cc e)

nest_numbers : AreNumbered 6 (1 ∷ 2 ∷ 3 ∷ 4 ∷ 5 ∷ [])
nest_numbers = record { once = once; none = none; not_outermost = refl }
  where
    once : (n : ℕ) → 1 ≤ n → n < 6 → times n (1 ∷ 2 ∷ 3 ∷ 4 ∷ 5 ∷ []) ≡ 1
    once zero low high = absurd (omega (arith, low))
    once (suc zero) low high = refl
    once (suc (suc zero)) low high = refl
    once (suc (suc (suc zero))) low high = refl
    once (suc (suc (suc (suc zero)))) low high = refl
    once (suc (suc (suc (suc (suc zero))))) low high = refl
    once (suc (suc (suc (suc (suc (suc n)))))) low high = absurd (omega (arith, high))

    none : (n : ℕ) → 6 ≤ n → times n (1 ∷ 2 ∷ 3 ∷ 4 ∷ 5 ∷ []) ≡ 0
    none n low =
        simp (
          eqb-other n 1 (λ e. omega (arith, e, low)),
          eqb-other n 2 (λ e. omega (arith, e, low)),
          eqb-other n 3 (λ e. omega (arith, e, low)),
          eqb-other n 4 (λ e. omega (arith, e, low)),
          eqb-other n 5 (λ e. omega (arith, e, low)),
        ) refl

number_sound : (w : Where) → SoundVariable w 0 (number_declared [])
number_sound w = record {
  members = (refl, tt);
  many = refl;
  dimensions = (refl, tt);
  leaves = (record { type_is = (omega arith, omega arith); bounds_are = tt; few = omega arith; initial_is = tt }, tt);
  areas = inl (tt, tt);
  refer = tt;
  kept = ((λ k. k, tt), tt);
  evaluations = tt;
}

nest_declares : (number : ℕ) → DeclaresSound table nest_program number
nest_declares zero around e = tt
nest_declares (suc zero) around e = (number_sound _, tt)
nest_declares (suc (suc zero)) around e = tt
nest_declares (suc (suc (suc zero))) around e = (number_sound _, tt)
nest_declares (suc (suc (suc (suc zero)))) around e = tt
nest_declares (suc (suc (suc (suc (suc zero))))) around e = tt
nest_declares (suc (suc (suc (suc (suc (suc n)))))) around e = absurd (cc e)

nest_well : IsWellFormed nest_program
nest_well = record {
  table = table;
  main = (refl, (refl, (omega arith, (omega arith, (omega arith, (omega arith, tt))))));
  numbers = nest_numbers;
  entries = nest_entries;
  nested = nest_nested;
  procedures = (main_sound, (fewer_sound, (other_sound, (within_sound, (again_sound, tt)))));
  lists = refl;
  outermost = refl;
  variables = nest_declares;
}

-- ---- it is of the class

pub nest_program_is : IsNumberProgram nest_program
nest_program_is = record { well_formed = nest_well; numbers = refl }

pub nest_fits : FitsMemory (picture_of parts nest_program)
nest_fits =
    let n = linked_length (links_of (code_of parts nest_program)) 0 (code_of parts nest_program) in
    record { code_fits = omega (arith, n); statics_fit = omega arith }

-- ---- what it comes to

unfoldable flows : Unit {0}
unfolding F.give F.◌>>=◌ F.◌>>◌ F.looked F.stored F.act F.finish F.returns F.jumps F.choose F.given F.list_from
    F.leaving F.repeated_while M.met_after_act
flows = tt

unfoldable values : Unit {0}
unfolding V.number V.bit V.designated V.located V.numbers V.variable_designated V.part_designated V.stored_value
    R.or_error R.demanded R.value_of R.raised R.unit_run R.error R.error_unit_run P.element_stored M.assigned
values = tt

unfoldable calls : Unit {0}
unfolding V.called V.all_passed_last V.procedure_entered V.returned
calls = tt

unfoldable makings : Unit {0}
unfolding K.variables_made K.automatic_made K.extents K.variable_made K.parameters_bound
makings = tt

unfoldable statements : Unit {0}
unfolding M.statement M.statements M.list M.list_with M.block_variables_made M.entry_act M.block_list M.block_body
statements = tt

pub nest_ends :
    (input : List ℕ) →
    M.meaning nest_program input 40 ≡ Some (record { acts = 40; output = []; raised = []; end = E.Finished })
unfolding M.meaning M.run M.entered M.block_run flows values calls makings statements
nest_ends input = refl
