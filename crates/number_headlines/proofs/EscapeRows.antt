-- The worked row with jumps out of begin blocks: a program of the class, which is computed from its tree.
use Rattle.std.proofs.Common.{◌≡◌, ℕ, zero, suc, ◌^◌, ◌≤◌, ◌<◌, List, [], ◌∷◌, Some, None, refl, subst, inl, inr, arith}
use Rattle.std.specs.Prelude.{slice_get}
use Rattle.pli_language.specs.Formats.{Putting, format_moves_data, formats_move_data}
use Rattle.pli_typing.specs.TypedTree as Y
use Rattle.pli_meaning.specs.DeclaredShapes.{declared_variable}
use Rattle.pli_meaning.specs.declared.outcome.End.TheVariants as E
use Rattle.pli_meaning.specs.Control as F
use Rattle.pli_meaning.specs.Evaluating as V
use Rattle.pli_meaning.specs.Executing as M
use Rattle.pli_meaning.specs.Making as K
use Rattle.pli_meaning.specs.Placing as P
use Rattle.pli_meaning.specs.Raising as R
use Rattle.pli_meaning.specs.Streaming as S
use Rattle.pli_coding.specs.Images.{code_of, picture_of}
use Rattle.pli_coding.specs.Linking.{links_of}
use Rattle.well_formed_trees.specs.Blocks.{times}
use Rattle.well_formed_trees.specs.Declarations.{SoundVariable}
use Rattle.well_formed_trees.specs.Expressions.{SoundNumber}
use Rattle.well_formed_trees.specs.Ranges.{IsFormatList}
use Rattle.well_formed_trees.specs.References.{Designates, IsNumberScalar, IsScalar}
use Rattle.well_formed_trees.specs.Statements.{SoundStmt, SoundStmts}
use Rattle.well_formed_trees.specs.Surroundings.{Around, IsAround, Returns, Table, Where}
use Rattle.well_formed_trees.specs.WellFormed.{AreNested, AreNumbered, DeclaresSound, IsBehind, IsEntry, IsWellFormed}
use Rattle.well_formed_trees.specs.WellFormed.{SoundProcedure}
use Rattle.storage_relation.proofs.Holders.{eqb-other}
use Rattle.run_steps.proofs.Linking.{linked_length}
use Rattle.expression_runs.specs.Variables.{number_declared, variable_of, whole}
use Rattle.pli_headline.specs.Headline.{FitsMemory, parts}
use Rattle.number_headlines.specs.CallRows.{head_at}
use Rattle.number_headlines.specs.Headlines.{IsNumberProgram}
use Rattle.number_headlines.specs.EscapeRows.{doubled, escape_body, escape_procedure, escape_program, inner_body}
use Rattle.number_headlines.specs.SearchRows.{found_formats, found_label, search_call, sought_body, sought_main}
use Rattle.number_headlines.specs.SearchRows.{sought_spot, sought_value}

-- ---- it is well formed

abbrev main_entry : Around
main_entry = record { number = 1; level = 0; outermost = found_label ∷ []; inner = [] }

abbrev escape_entry : Around
escape_entry = record { number = 2; level = 1; outermost = []; inner = [] }

abbrev inner_entry : Around
inner_entry = record { number = 3; level = 2; outermost = []; inner = [] }

abbrev table : Table
table =
    [] ∷ (main_entry ∷ []) ∷ (escape_entry ∷ main_entry ∷ []) ∷ (inner_entry ∷ escape_entry ∷ main_entry ∷ []) ∷ []

abbrev in_main : Where
in_main = record { program = escape_program; table = table; around = main_entry ∷ []; returning = Returns None }

abbrev in_search : Where
in_search =
    record {
      program = escape_program;
      table = table;
      around = escape_entry ∷ main_entry ∷ [];
      returning = Returns None;
    }

abbrev in_inner : Where
in_inner =
    record {
      program = escape_program;
      table = table;
      around = inner_entry ∷ escape_entry ∷ main_entry ∷ [];
      returning = Returns None;
    }

-- ---- its variable

record Names (w : Where) : Type 0 where
  found : declared_variable w.program (variable_of sought_spot) ≡ Some (number_declared [])
  around : IsAround 1 0 w.around

abbrev designated : (w : Where) → Names w → Designates w (whole sought_spot)
designated w n = record {
  d = number_declared [];
  declared = record { found = n.found; same_class = refl; block_around = n.around };
  dimensions = 0;
  member = record { place = 0; dimensions_are = refl; part_is = refl; some = omega arith; within = omega arith };
  subscripted = inl refl;
}

scalar : (w : Where) → Names w → IsScalar w (Y.FixedLeaf 31) (whole sought_spot)
scalar w n = record {
  designates = designated w n;
  leaf = record { type = Y.FixedLeaf 31; bounds = []; initial = [] };
  one = record { one = refl; leaf_is = refl };
  type_is = refl;
  many = refl;
}

value : (w : Where) → Names w → SoundNumber w sought_value
value w n = (record { precision = 31; scalar = scalar w n }, (designated w n, (tt, (tt, tt))))

assigned :
    (w : Where) (source : Y.Number) (line : ℕ) → Names w → SoundNumber w source → line < 2 ^ 31 →
    SoundStmt w (Y.Assign (whole sought_spot) (Y.StoredNumber 31 source) line)
assigned w source line n sound less = (
  record { type = Y.FixedLeaf 31; scalar = scalar w n; fits = refl },
  (
    (designated w n, (tt, (tt, tt))),
    (((omega arith, omega arith), sound), less),
  ),
)

main_names : Names in_main
main_names = record { found = refl; around = inl (refl, refl) }

escape_names : Names in_search
escape_names = record { found = refl; around = inr (inl (refl, refl)) }

inner_names : Names in_inner
inner_names = record { found = refl; around = inr (inr (inl (refl, refl))) }

-- ---- calls

main_calls : SoundStmt in_main (search_call 9)
main_calls = (
  (escape_procedure, refl, refl),
  (
    (
      record {
        procedure = escape_procedure;
        is = record {
          found = refl;
          level_is = refl;
          kind = refl;
          own = escape_entry;
          holder = main_entry;
          outer = [];
          entry = refl;
          holder_around = inl (refl, refl);
        };
        passed = tt;
      },
      tt,
    ),
    omega arith,
  ),
)

inner_calls : SoundStmt in_inner (search_call 6)
inner_calls = (
  (escape_procedure, refl, refl),
  (
    (
      record {
        procedure = escape_procedure;
        is = record {
          found = refl;
          level_is = refl;
          kind = refl;
          own = escape_entry;
          holder = main_entry;
          outer = [];
          entry = refl;
          holder_around = inr (inr (inl (refl, refl)));
        };
        passed = tt;
      },
      tt,
    ),
    omega arith,
  ),
)

inner_sound : SoundStmts in_inner inner_body
inner_sound = (
  assigned in_inner doubled 4 inner_names (value in_inner inner_names, value in_inner inner_names) (omega arith),
  (
    (
      (omega arith, value in_inner inner_names),
      ((inr (inr (inl (refl, refl))), omega arith), omega arith),
    ),
    (inner_calls, tt),
  ),
)

-- ---- procedures

found_format : IsFormatList Putting found_formats
unfolding formats_move_data format_moves_data
found_format = record {
  formats_are = ((omega arith, omega arith), ((omega arith, omega arith), tt));
  moves_data = refl;
}

main_number : IsNumberScalar in_main (whole sought_spot)
main_number = record { precision = 31; scalar = scalar in_main main_names }

main_sound : SoundProcedure table escape_program sought_main
main_sound = record {
  head = head_at 1 0 1;
  body = sought_body;
  is = refl;
  kind = refl;
  line = omega arith;
  outer = [];
  held = refl;
  listed = refl;
  statements = (
    assigned in_main (Y.NumberConstant 1) 8 main_names (omega arith) (omega arith),
    (
      main_calls,
      (
        assigned in_main (Y.NumberConstant 9) 10 main_names (omega arith) (omega arith),
        (
          (
            tt,
            (
              (
                (
                  found_format,
                  (((omega arith, omega arith), value in_main main_names), tt),
                ),
                tt,
              ),
              omega arith,
            ),
          ),
          tt,
        ),
      ),
    ),
  );
  labels = ((refl, tt), (tt, (tt, (tt, (tt, tt)))));
  parameters = tt;
  apart = tt;
  result = tt;
}

escape_sound : SoundProcedure table escape_program escape_procedure
escape_sound = record {
  head = head_at 2 1 2;
  body = escape_body;
  is = refl;
  kind = refl;
  line = omega arith;
  outer = main_entry ∷ [];
  held = (refl, refl);
  listed = refl;
  statements = (
    ((refl, (record { line = omega arith; level = refl }, refl)), inner_sound),
    (assigned in_search (Y.NumberConstant 0) 7 escape_names (omega arith) (omega arith), tt),
  );
  labels = (tt, ((tt, (tt, (tt, (tt, tt)))), (tt, tt)));
  parameters = tt;
  apart = tt;
  result = tt;
}

-- ---- blocks

escape_entries : (number : ℕ) → 1 ≤ number → number < 4 → IsEntry table number
escape_entries zero low high = absurd (omega (arith, low))
escape_entries (suc zero) low high =
    record { own = main_entry; outer = []; entry = refl; number_is = refl; shallow = omega arith }
escape_entries (suc (suc zero)) low high =
    record { own = escape_entry; outer = main_entry ∷ []; entry = refl; number_is = refl; shallow = omega arith }
escape_entries (suc (suc (suc zero))) low high =
    record {
      own = inner_entry;
      outer = escape_entry ∷ main_entry ∷ [];
      entry = refl;
      number_is = refl;
      shallow = omega arith;
    }
escape_entries (suc (suc (suc (suc n)))) low high = absurd (omega (arith, high))

-- between the main procedure and the one in it stands none
none_between :
    (m : ℕ) (a : Around) (more : List Around) → 1 < m → m ≤ 2 → slice_get table m ≡ Some (a ∷ more) → 0 < a.level
none_between zero a more low within e = absurd (omega (arith, low))
none_between (suc zero) a more low within e = absurd (omega (arith, low))
none_between (suc (suc zero)) a more low within e =
    let is : escape_entry ≡ a = cc e in
    subst (λ (x : Around). 0 < x.level) is (omega arith)
none_between (suc (suc (suc n))) a more low within e = absurd (omega (arith, within))

-- nor between that and the begin block in it
inner_between :
    (m : ℕ) (a : Around) (more : List Around) → 2 < m → m ≤ 3 → slice_get table m ≡ Some (a ∷ more) → 1 < a.level
inner_between zero a more low within e = absurd (omega (arith, low))
inner_between (suc zero) a more low within e = absurd (omega (arith, low))
inner_between (suc (suc zero)) a more low within e = absurd (omega (arith, low))
inner_between (suc (suc (suc zero))) a more low within e =
    let is : inner_entry ≡ a = cc e in
    subst (λ (x : Around). 1 < x.level) is (omega arith)
inner_between (suc (suc (suc (suc n)))) a more low within e = absurd (omega (arith, within))

escape_nested : AreNested table
escape_nested zero own outer e = absurd (cc e)
escape_nested (suc zero) own outer e =
    let is : [] ≡ outer = cc e in
    subst (λ os. IsBehind table 1 os) is tt
escape_nested (suc (suc zero)) own outer e =
    let is : main_entry ∷ [] ≡ outer = cc e in
    subst (λ os. IsBehind table 2 os) is (omega arith, λ m a more low high at. none_between m a more low high at)
escape_nested (suc (suc (suc zero))) own outer e =
    let is : escape_entry ∷ main_entry ∷ [] ≡ outer = cc e in
    subst (λ os. IsBehind table 3 os) is (omega arith, λ m a more low high at. inner_between m a more low high at)
escape_nested (suc (suc (suc (suc n)))) own outer e = absurd (cc e)

escape_numbers : AreNumbered 4 (1 ∷ 2 ∷ 3 ∷ [])
escape_numbers = record { once = once; none = none; not_outermost = refl }
  where
    once : (n : ℕ) → 1 ≤ n → n < 4 → times n (1 ∷ 2 ∷ 3 ∷ []) ≡ 1
    once zero low high = absurd (omega (arith, low))
    once (suc zero) low high = refl
    once (suc (suc zero)) low high = refl
    once (suc (suc (suc zero))) low high = refl
    once (suc (suc (suc (suc n)))) low high = absurd (omega (arith, high))

    none : (n : ℕ) → 4 ≤ n → times n (1 ∷ 2 ∷ 3 ∷ []) ≡ 0
    none n low =
        simp (
          eqb-other n 1 (λ e. omega (arith, e, low)),
          eqb-other n 2 (λ e. omega (arith, e, low)),
          eqb-other n 3 (λ e. omega (arith, e, low)),
        ) refl

number_sound : (w : Where) → SoundVariable w 0 (number_declared [])
number_sound w = record {
  members = (refl, tt);
  many = refl;
  dimensions = (refl, tt);
  leaves = (record { type_is = (omega arith, omega arith); bounds_are = tt; few = omega arith; initial_is = tt }, tt);
  areas = inl (tt, tt);
  refer = tt;
  kept = ((λ k. k, tt), tt);
  evaluations = tt;
}

escape_declares : (number : ℕ) → DeclaresSound table escape_program number
escape_declares zero around e = tt
escape_declares (suc zero) around e = (number_sound _, tt)
escape_declares (suc (suc zero)) around e = tt
escape_declares (suc (suc (suc zero))) around e = tt
escape_declares (suc (suc (suc (suc n)))) around e = absurd (cc e)

escape_well : IsWellFormed escape_program
escape_well = record {
  table = table;
  main = (refl, (refl, (omega arith, tt)));
  numbers = escape_numbers;
  entries = escape_entries;
  nested = escape_nested;
  procedures = (main_sound, (escape_sound, tt));
  lists = refl;
  outermost = refl;
  variables = escape_declares;
}

-- ---- it is of the class

pub escape_program_is : IsNumberProgram escape_program
escape_program_is = record { well_formed = escape_well; numbers = refl }

pub escape_fits : FitsMemory (picture_of parts escape_program)
escape_fits =
    let n = linked_length (links_of (code_of parts escape_program)) 0 (code_of parts escape_program) in
    record { code_fits = omega (arith, n); statics_fit = omega arith }

-- ---- what it comes to

unfoldable flows : Unit {0}
unfolding F.give F.◌>>=◌ F.◌>>◌ F.looked F.stored F.act F.finish F.returns F.jumps F.choose F.given F.list_from
    F.leaving F.repeated_while M.met_after_act
flows = tt

unfoldable values : Unit {0}
unfolding V.number V.bit V.designated V.located V.numbers V.variable_designated V.part_designated V.stored_value
    R.or_error R.demanded R.value_of R.raised R.unit_run R.error R.error_unit_run P.element_stored M.assigned
values = tt

unfoldable writings : Unit {0}
unfolding S.put S.pairs_put S.items_put S.item_put S.next_item S.controls S.control_put S.shown_by V.computational
writings = tt

unfoldable calls : Unit {0}
unfolding V.called V.all_passed_last V.procedure_entered V.returned
calls = tt

unfoldable makings : Unit {0}
unfolding K.variables_made K.automatic_made K.extents K.variable_made K.parameters_bound
makings = tt

unfoldable statements : Unit {0}
unfolding M.statement M.statements M.list M.list_with M.block_variables_made M.entry_act M.block_list M.block_body
statements = tt

pub escape_ends :
    (input : List ℕ) →
    M.meaning escape_program input 26
    ≡ Some (record { acts = 26; output = 49 ∷ 54 ∷ 10 ∷ []; raised = []; end = E.Finished })
unfolding M.meaning M.run M.entered M.block_run flows values writings calls makings statements
escape_ends input = refl
