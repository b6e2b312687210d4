-- The worked row with numbers in an area: it is computed from its tree.
use Rattle.std.proofs.Common.{◌≡◌, ℕ, zero, suc, ◌≤◌, ◌<◌, List, [], ◌∷◌, Some, None, refl, ap, subst, inl, inr}
use Rattle.std.proofs.Common.{arith}
use Rattle.std.specs.Prelude.{cond, pos}
use Rattle.pli_language.specs.Formats.{Putting, format_moves_data, formats_move_data}
use Rattle.pli_typing.specs.TypedTree as Y
use Rattle.pli_meaning.specs.declared.outcome.End.TheVariants as E
use Rattle.pli_meaning.specs.Control as F
use Rattle.pli_meaning.specs.Evaluating as V
use Rattle.pli_meaning.specs.Executing as M
use Rattle.pli_meaning.specs.Making as K
use Rattle.pli_meaning.specs.Placing as P
use Rattle.pli_meaning.specs.Raising as R
use Rattle.pli_meaning.specs.Streaming as S
use Rattle.pli_coding.specs.Images.{code_of, picture_of}
use Rattle.pli_coding.specs.Linking.{links_of}
use Rattle.well_formed_trees.specs.Blocks.{times}
use Rattle.well_formed_trees.specs.Declarations.{SoundVariable}
use Rattle.well_formed_trees.specs.Ranges.{IsFormatList}
use Rattle.well_formed_trees.specs.References.{Designates, IsNumberScalar, IsScalar}
use Rattle.well_formed_trees.specs.Surroundings.{Around, IsArea, IsOfClass, Returns, Table, Where}
use Rattle.well_formed_trees.specs.WellFormed.{AreNested, AreNumbered, DeclaresSound, IsBehind, IsEntry, IsWellFormed}
use Rattle.well_formed_trees.specs.WellFormed.{SoundProcedure}
use Rattle.storage_relation.proofs.Holders.{eqb-other}
use Rattle.run_steps.proofs.Linking.{linked_length}
use Rattle.expression_runs.specs.Variables.{number_declared, variable_of, whole}
use Rattle.area_runs.specs.Based.{based_declared, based_of, pointer_declared, through}
use Rattle.pli_headline.specs.Headline.{FitsMemory, parts}
use Rattle.number_headlines.specs.AreaRows.{area_declared, based_spot, copy_spot, gather_body, gather_formats}
use Rattle.number_headlines.specs.AreaRows.{gather_head, gather_main, gather_program, pointer_spot, root_spot}
use Rattle.number_headlines.specs.AreaRows.{store_spot, sum_spot}
use Rattle.number_headlines.specs.Headlines.{IsNumberProgram}

-- ---- it is well formed

abbrev entry : Around
entry = record { number = 1; level = 0; outermost = []; inner = [] }

abbrev table : Table
table = [] ∷ (entry ∷ []) ∷ []

-- also in the list of the loop
abbrev in_main : Where
in_main = record { program = gather_program; table = table; around = entry ∷ []; returning = Returns None }

-- one that is AUTOMATIC, all of it
abbrev root_is : Designates in_main (whole root_spot)
root_is = record {
  d = number_declared [];
  declared = record { found = refl; same_class = refl; block_around = inl (refl, refl) };
  dimensions = 0;
  member = record { place = 0; dimensions_are = refl; part_is = refl; some = omega arith; within = omega arith };
  subscripted = inl refl;
}

root_scalar : IsScalar in_main (Y.FixedLeaf 31) (whole root_spot)
root_scalar = record {
  designates = root_is;
  leaf = record { type = Y.FixedLeaf 31; bounds = []; initial = [] };
  one = record { one = refl; leaf_is = refl };
  type_is = refl;
  many = refl;
}

root_number : IsNumberScalar in_main (whole root_spot)
root_number = record { precision = 31; scalar = root_scalar }

abbrev sum_is : Designates in_main (whole sum_spot)
sum_is = record {
  d = number_declared [];
  declared = record { found = refl; same_class = refl; block_around = inl (refl, refl) };
  dimensions = 0;
  member = record { place = 0; dimensions_are = refl; part_is = refl; some = omega arith; within = omega arith };
  subscripted = inl refl;
}

sum_scalar : IsScalar in_main (Y.FixedLeaf 31) (whole sum_spot)
sum_scalar = record {
  designates = sum_is;
  leaf = record { type = Y.FixedLeaf 31; bounds = []; initial = [] };
  one = record { one = refl; leaf_is = refl };
  type_is = refl;
  many = refl;
}

sum_number : IsNumberScalar in_main (whole sum_spot)
sum_number = record { precision = 31; scalar = sum_scalar }

abbrev pointer_is : Designates in_main (whole pointer_spot)
pointer_is = record {
  d = pointer_declared;
  declared = record { found = refl; same_class = refl; block_around = inl (refl, refl) };
  dimensions = 0;
  member = record { place = 0; dimensions_are = refl; part_is = refl; some = omega arith; within = omega arith };
  subscripted = inl refl;
}

pointer_scalar : IsScalar in_main Y.PointerLeaf (whole pointer_spot)
pointer_scalar = record {
  designates = pointer_is;
  leaf = record { type = Y.PointerLeaf; bounds = []; initial = [] };
  one = record { one = refl; leaf_is = refl };
  type_is = refl;
  many = refl;
}

-- what the pointer leads to
abbrev square_is : Designates in_main (through pointer_spot based_spot)
square_is = record {
  d = based_declared;
  declared = record { found = refl; same_class = refl; block_around = inl (refl, refl) };
  dimensions = 0;
  member = record { place = 0; dimensions_are = refl; part_is = refl; some = omega arith; within = omega arith };
  subscripted = inl refl;
}

square_scalar : IsScalar in_main (Y.FixedLeaf 31) (through pointer_spot based_spot)
square_scalar = record {
  designates = square_is;
  leaf = record { type = Y.FixedLeaf 31; bounds = []; initial = [] };
  one = record { one = refl; leaf_is = refl };
  type_is = refl;
  many = refl;
}

square_number : IsNumberScalar in_main (through pointer_spot based_spot)
square_number = record { precision = 31; scalar = square_scalar }

based_class : IsOfClass in_main Y.BasedClass (based_of based_spot)
based_class = record {
  class_is = refl;
  d = based_declared;
  declared = record { found = refl; same_class = refl; block_around = inl (refl, refl) };
}

store_is : IsArea in_main (variable_of store_spot)
store_is = record {
  d = area_declared 128;
  declared = record { found = refl; same_class = refl; block_around = inl (refl, refl) };
  size = Y.ConstantExtent (pos 128);
  initial = [];
  leaf = refl;
}

copy_is : IsArea in_main (variable_of copy_spot)
copy_is = record {
  d = area_declared 64;
  declared = record { found = refl; same_class = refl; block_around = inl (refl, refl) };
  size = Y.ConstantExtent (pos 64);
  initial = [];
  leaf = refl;
}

gather_format : IsFormatList Putting gather_formats
unfolding formats_move_data format_moves_data
gather_format = record {
  formats_are = ((omega arith, omega arith), ((omega arith, omega arith), tt));
  moves_data = refl;
}

gather_sound : SoundProcedure table gather_program gather_main
gather_sound = record {
  head = gather_head;
  body = gather_body;
  is = refl;
  kind = refl;
  line = omega arith;
  outer = [];
  held = refl;
  listed = refl;
  statements = (
    (
      record { type = Y.FixedLeaf 31; scalar = root_scalar; fits = refl },
      ((root_is, (tt, (tt, tt))), (((omega arith, omega arith), omega arith), omega arith)),
    ),
    (
      (
        record { type = Y.FixedLeaf 31; scalar = sum_scalar; fits = refl },
        ((sum_is, (tt, (tt, tt))), (((omega arith, omega arith), omega arith), omega arith)),
      ),
      (
        (
          ((root_number, (root_is, (tt, (tt, tt)))), omega arith),
          (
            (
              (
                record { type = Y.FixedLeaf 31; scalar = root_scalar; fits = refl },
                (
                  (root_is, (tt, (tt, tt))),
                  (
                    (
                      (omega arith, omega arith),
                      ((root_number, (root_is, (tt, (tt, tt)))), omega arith),
                    ),
                    omega arith,
                  ),
                ),
              ),
              (
                (
                  ((based_class, (store_is, (pointer_scalar, (pointer_is, (tt, (tt, tt)))))), tt),
                  omega arith,
                ),
                (
                  (
                    record { type = Y.FixedLeaf 31; scalar = square_scalar; fits = refl },
                    (
                      (square_is, (tt, ((pointer_scalar, (pointer_is, (tt, (tt, tt)))), tt))),
                      (
                        (
                          (omega arith, omega arith),
                          (
                            (root_number, (root_is, (tt, (tt, tt)))),
                            (root_number, (root_is, (tt, (tt, tt)))),
                          ),
                        ),
                        omega arith,
                      ),
                    ),
                  ),
                  (
                    (
                      record { type = Y.FixedLeaf 31; scalar = sum_scalar; fits = refl },
                      (
                        (sum_is, (tt, (tt, tt))),
                        (
                          (
                            (omega arith, omega arith),
                            (
                              (sum_number, (sum_is, (tt, (tt, tt)))),
                              (
                                square_number,
                                (square_is, (tt, ((pointer_scalar, (pointer_is, (tt, (tt, tt)))), tt))),
                              ),
                            ),
                          ),
                          omega arith,
                        ),
                      ),
                    ),
                    tt,
                  ),
                ),
              ),
            ),
            omega arith,
          ),
        ),
        (
          (((based_class, ((pointer_scalar, (pointer_is, (tt, (tt, tt)))), tt)), tt), omega arith),
          (
            (store_is, omega arith),
            (
              (copy_is, (store_is, omega arith)),
              (
                (
                  tt,
                  (
                    ((gather_format, (((omega arith, omega arith), (sum_number, (sum_is, (tt, (tt, tt))))), tt)), tt),
                    omega arith,
                  ),
                ),
                tt,
              ),
            ),
          ),
        ),
      ),
    ),
  );
  labels = (tt, (tt, (tt, ((tt, (tt, (tt, (tt, tt)))), (tt, (tt, (tt, (tt, tt))))))));
  parameters = tt;
  apart = tt;
  result = tt;
}

gather_entries : (number : ℕ) → 1 ≤ number → number < 2 → IsEntry table number
gather_entries zero low high = absurd (omega (arith, low))
gather_entries (suc zero) low high =
    record { own = entry; outer = []; entry = refl; number_is = refl; shallow = omega arith }
gather_entries (suc (suc n)) low high = absurd (omega (arith, high))

gather_nested : AreNested table
gather_nested zero own outer e = absurd (cc e)
gather_nested (suc zero) own outer e =
    let none : [] ≡ outer = cc e in
    subst (λ os. IsBehind table 1 os) none tt
gather_nested (suc (suc n)) own outer e = absurd (cc e)

gather_numbers : AreNumbered 2 (1 ∷ [])
gather_numbers = record { once = once; none = none; not_outermost = refl }
  where
    once : (n : ℕ) → 1 ≤ n → n < 2 → times n (1 ∷ []) ≡ 1
    once zero low high = absurd (omega (arith, low))
    once (suc zero) low high = refl
    once (suc (suc n)) low high = absurd (omega (arith, high))

    none : (n : ℕ) → 2 ≤ n → times n (1 ∷ []) ≡ 0
    none n low = ap (λ q. cond q 1 0) (eqb-other n 1 (λ e. omega (arith, e, low)))

number_sound : (w : Where) (index : ℕ) → SoundVariable w index (number_declared [])
number_sound w index = record {
  members = (refl, tt);
  many = refl;
  dimensions = (refl, tt);
  leaves = (record { type_is = (omega arith, omega arith); bounds_are = tt; few = omega arith; initial_is = tt }, tt);
  areas = inl (tt, tt);
  refer = tt;
  kept = ((λ k. k, tt), tt);
  evaluations = tt;
}

based_sound : (w : Where) → SoundVariable w 3 based_declared
based_sound w = record {
  members = (refl, tt);
  many = refl;
  dimensions = (refl, tt);
  leaves = (record { type_is = (omega arith, omega arith); bounds_are = tt; few = omega arith; initial_is = tt }, tt);
  areas = inl (tt, tt);
  refer = tt;
  kept = ((λ k. k, tt), tt);
  evaluations = tt;
}

pointer_sound : (w : Where) → SoundVariable w 2 pointer_declared
pointer_sound w = record {
  members = (refl, tt);
  many = refl;
  dimensions = (refl, tt);
  leaves = (record { type_is = tt; bounds_are = tt; few = omega arith; initial_is = tt }, tt);
  areas = inl (tt, tt);
  refer = tt;
  kept = ((λ k. k, tt), tt);
  evaluations = tt;
}

store_sound : (w : Where) → SoundVariable w 0 (area_declared 128)
store_sound w = record {
  members = (refl, tt);
  many = refl;
  dimensions = (refl, tt);
  leaves = (record { type_is = (omega arith, (tt, tt)); bounds_are = tt; few = omega arith; initial_is = tt }, tt);
  areas = inr (record {
    leaf = record { type = Y.AreaLeaf (Y.ConstantExtent (pos 128)); bounds = []; initial = [] };
    only = refl;
    size = Y.ConstantExtent (pos 128);
    is = refl;
    none = refl;
    class_holds = tt;
  });
  refer = tt;
  kept = ((λ k. k, tt), tt);
  evaluations = tt;
}

copy_sound : (w : Where) → SoundVariable w 1 (area_declared 64)
copy_sound w = record {
  members = (refl, tt);
  many = refl;
  dimensions = (refl, tt);
  leaves = (record { type_is = (omega arith, (tt, tt)); bounds_are = tt; few = omega arith; initial_is = tt }, tt);
  areas = inr (record {
    leaf = record { type = Y.AreaLeaf (Y.ConstantExtent (pos 64)); bounds = []; initial = [] };
    only = refl;
    size = Y.ConstantExtent (pos 64);
    is = refl;
    none = refl;
    class_holds = tt;
  });
  refer = tt;
  kept = ((λ k. k, tt), tt);
  evaluations = tt;
}

gather_declares : (number : ℕ) → DeclaresSound table gather_program number
gather_declares zero around e = tt
gather_declares (suc zero) around e = (
  store_sound _,
  (copy_sound _, (pointer_sound _, (based_sound _, (number_sound _ 4, (number_sound _ 5, tt))))),
)
gather_declares (suc (suc n)) around e = absurd (cc e)

gather_well : IsWellFormed gather_program
gather_well = record {
  table = table;
  main = (refl, (refl, tt));
  numbers = gather_numbers;
  entries = gather_entries;
  nested = gather_nested;
  procedures = (gather_sound, tt);
  lists = refl;
  outermost = refl;
  variables = gather_declares;
}

-- ---- it is of the class

pub gather_program_is : IsNumberProgram gather_program
gather_program_is = record { well_formed = gather_well; numbers = refl }

pub gather_fit : FitsMemory (picture_of parts gather_program)
gather_fit =
    let n = linked_length (links_of (code_of parts gather_program)) 0 (code_of parts gather_program) in
    record { code_fits = omega (arith, n); statics_fit = omega arith }

-- ---- what it comes to

unfoldable flows : Unit {0}
unfolding F.give F.◌>>=◌ F.◌>>◌ F.looked F.stored F.act F.finish F.returns F.jumps F.choose F.given F.list_from
    F.leaving F.repeated_while M.met_after_act
flows = tt

unfoldable values : Unit {0}
unfolding V.number V.bit V.designated V.located V.numbers V.variable_designated V.part_designated V.stored_value
    R.or_error R.demanded R.value_of R.raised R.unit_run R.error R.error_unit_run P.element_stored M.assigned V.pointer
    V.area_meant V.computational
values = tt

unfoldable writings : Unit {0}
unfolding S.put S.pairs_put S.items_put S.item_put S.next_item S.controls S.control_put S.shown_by
writings = tt

unfoldable placings : Unit {0}
unfolding P.allocations P.allocation P.based_allocated P.area_or_heap P.placing P.locator_set P.area_assigned
    P.area_copied P.area_emptied P.freeings P.freeing P.based_freed P.name_freed P.area_if
placings = tt

unfoldable makings : Unit {0}
unfolding K.variables_made K.automatic_made K.extents K.variable_made K.parameters_bound
makings = tt

unfoldable statements : Unit {0}
unfolding M.statement M.statements M.list M.list_with M.block_variables_made M.entry_act M.block_list M.block_body
statements = tt

pub gather_end :
    (input : List ℕ) →
    M.meaning gather_program input 31
    ≡ Some (record { acts = 31; output = 51 ∷ 48 ∷ 10 ∷ []; raised = []; end = E.Finished })
unfolding M.meaning M.run M.entered M.block_run flows values writings placings makings statements
gather_end input = refl
