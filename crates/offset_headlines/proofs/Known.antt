-- What the worked row's block knows: its variables, and what its pointers point to.
use Rattle.std.proofs.Common.{ℕ, zero, suc, ◌<◌, List, [], ◌∷◌, inl, inr, map}
use Rattle.std.proofs.Common.{refl, arith}
use Rattle.std.specs.Prelude.{ℤ}
use Rattle.pli_typing.specs.TypedTree as Y
use Rattle.pli_meaning.specs.Making as K
use Rattle.pli_serving.specs.Templates.{template_of}
use Rattle.pli_coding.specs.Images.{linked_code, picture_of}
use Rattle.pli_coding.specs.Linking.{links_of}
use Rattle.pli_coding.specs.SignatureTable.{table_of}
use Rattle.storage_relation.specs.Served.{AllDiffer}
use Rattle.storage_relation.specs.Standing.{IsValued, leaf_in}
use Rattle.storage_relation.specs.Telling.{IsOf}
use Rattle.storage_relation.proofs.TableSignatures.{table_differs, table_once}
use Rattle.run_steps.proofs.Linking.{linked_length}
use Rattle.pli_headline.specs.Headline.{FitsMemory, parts}
use Rattle.program_places.specs.Programs.{Run, image_for}
use Rattle.program_runs.specs.Calls.{block_at}
use Rattle.program_runs.specs.Programs.{Whole, main_of}
use Rattle.program_runs.specs.Starts.{Image, image_parts, no_numbers, start_point}
use Rattle.program_runs.specs.Starts.{surroundings_of}
use Rattle.program_runs.specs.Statements.{Block, IsBegun}
use Rattle.program_runs.specs.Variables.{Declared, generation_for}
use Rattle.program_runs.proofs.VariableRows.{number_valued}
use Rattle.expression_runs.specs.Variables.{IsNumber, number_declared}
use Rattle.variable_runs.specs.Known.{IsKnown}
use Rattle.variable_runs.specs.Lists.{AreAll, newest_all}
use Rattle.variable_runs.proofs.Known.{known_number, known_own}
use Rattle.area_runs.specs.Allocations.{HasArea}
use Rattle.area_runs.specs.Based.{pointer_declared}
use Rattle.area_runs.proofs.Rows.{pointer_valued}
use Rattle.locator_runs.specs.Pointers.{IsPointer}
use Rattle.member_runs.specs.Members.{IsMember, IsStructure}
use Rattle.block_headlines.proofs.VariableRuns.{fits}
use Rattle.offset_runs.specs.Offsets.{IsOffsetVariable, offset_declared}
use Rattle.offset_headlines.specs.Rows.{area_declared, area_made, area_spot, first_made, first_spot, next_member}
use Rattle.offset_headlines.specs.Rows.{node_leaves, node_members}
use Rattle.offset_headlines.specs.Rows.{node_spot, number_made, number_spot, of_area, offset_made, offset_spot}
use Rattle.offset_headlines.specs.Rows.{pointer_made}
use Rattle.offset_headlines.specs.Rows.{pointer_spot, spare_made, spare_spot, twin_entry, twin_environment, twin_made}
use Rattle.offset_headlines.specs.Rows.{twin_main, twin_program}
use Rattle.offset_headlines.specs.Rows.{twin_spot, value_member}
use Rattle.offset_headlines.proofs.Placed.{twin_code, twin_finish}

-- ---- its image

pub twin_fits : FitsMemory (picture_of parts twin_program)
twin_fits = fits twin_program (omega arith) (omega arith)

abbrev pub run_of : (input : List ℕ) → (acts : ℕ) → Run
run_of input acts = record { units = []; input = input; acts = acts; serials = 7 }

abbrev pub twin_image : (input : List ℕ) → (acts : ℕ) → Image
twin_image input acts = image_for twin_program (run_of input acts)

abbrev pub twin_variables : List Declared
twin_variables = area_made ∷ pointer_made ∷ twin_made ∷ offset_made ∷ first_made ∷ number_made ∷ spare_made ∷ []

abbrev pub twin_whole : (input : List ℕ) → (acts : ℕ) → Whole
twin_whole input acts =
    record {
      image = twin_image input acts;
      program = twin_program;
      main = twin_main;
      others = [];
      environment = twin_environment;
      entry = twin_entry;
      end = twin_finish;
      made = newest_all image_parts twin_variables;
    }

pub all_differ : AllDiffer (map template_of (table_of twin_program))
all_differ =
    table_differs (table_of twin_program) (table_once twin_program) (
      record {
        headed = refl;
        leaved = (record { sized = refl; few = omega arith; bounded = tt; placed = refl }, tt);
      },
      (tt, tt),
      (
        record {
          headed = refl;
          leaved = (record { sized = refl; few = omega arith; bounded = tt; placed = refl }, tt);
        },
        (tt, tt),
        (
          record {
            headed = refl;
            leaved = (
              record { sized = refl; few = omega arith; bounded = tt; placed = refl },
              (
                record { sized = refl; few = omega arith; bounded = tt; placed = refl },
                tt,
              ),
            );
          },
          (tt, (tt, tt)),
          (
            record {
              headed = refl;
              leaved = (record { sized = refl; few = omega arith; bounded = tt; placed = refl }, tt);
            },
            (tt, tt),
            (
              record {
                headed = refl;
                leaved = (record { sized = refl; few = omega arith; bounded = tt; placed = refl }, tt);
              },
              (tt, tt),
              tt,
            ),
          ),
        ),
      ),
    )

-- ---- its variables

pub offset_valued : IsValued (generation_for offset_made)
offset_valued leaf is less within = by_leaf leaf is less
  where
    by_leaf :
        (leaf : ℕ) (is : List ℤ) → leaf < 1 →
        IsOf (leaf_in (generation_for offset_made) leaf).kind ((generation_for offset_made).values leaf is)
    by_leaf zero is less = tt
    by_leaf (suc leaf) is less = absurd (omega (arith, less))

pub twin_all :
    (input : List ℕ) (acts : ℕ) →
    AreAll (surroundings_of (twin_image input acts)) (main_of (twin_whole input acts))
    (start_point (twin_image input acts)) no_numbers twin_variables
twin_all input acts =
    let n = linked_length (links_of twin_code) 0 twin_code in
    record {
      kind = refl;
      those = inl (
        refl,
        refl,
        inl (
          refl,
          refl,
          inr (
            refl,
            inl (
              refl,
              refl,
              inl (
                refl,
                refl,
                inl (
                  refl,
                  refl,
                  inl
                      (refl, refl, inl (refl, refl, tt)),
                ),
              ),
            ),
          ),
        ),
      );
      listed = (
        record { class = refl; evaluations = refl; late = omega arith; table = refl },
        (
          record {
            class =
                refl;
            evaluations = refl;
            late = omega arith;
            table = refl;
          },
          (
            record {
              class = refl;
              evaluations = refl;
              late
                  = omega arith;
              table = refl;
            },
            (
              record { class = refl; evaluations = refl; late = omega arith; table = refl },
              (
                record { class = refl; evaluations = refl; late = omega arith; table = refl },
                (
                  record {
                    class = refl;
                    evaluations = refl;
                    late = omega arith;
                    table = refl;
                  },
                  (
                    record {
                      class = refl;
                      evaluations = refl;
                      late =
                          omega arith;
                      table = refl;
                    },
                    tt,
                  ),
                ),
              ),
            ),
          ),
        ),
      );
      code = refl;
      made = refl;
      parts = refl;
      few = omega arith;
      declared = (
        inr (record {
          newest = refl;
          here = refl;
          capacity = 256;
          holds = omega arith;
          size = omega arith;
          fits = omega arith;
          even = refl;
          low = omega (arith, n);
          shape = refl;
          number = omega arith;
          initial = refl;
          none = refl;
          area = refl;
          fixed = refl;
          rounded = refl;
          bounded = omega arith;
          serial = omega arith;
          limit = refl;
        }),
        (
          inl (record {
            newest = refl;
            here = refl;
            holds = omega arith;
            size = omega arith;
            fits = omega arith;
            even = refl;
            low = omega (arith, n);
            shape = refl;
            number = omega arith;
            initial = refl;
            none = refl;
            plain = refl;
            fixed = refl;
            values = (tt, tt);
            valued = pointer_valued;
            limit = refl;
          }),
          (
            inr (record {
              newest = refl;
              here = refl;
              capacity = 256;
              holds = omega arith;
              size = omega arith;
              fits = omega arith;
              even = refl;
              low = omega (arith, n);
              shape = refl;
              number = omega arith;
              initial = refl;
              none = refl;
              area = refl;
              fixed = refl;
              rounded = refl;
              bounded = omega arith;
              serial = omega arith;
              limit = refl;
            }),
            (
              inl (record {
                newest = refl;
                here = refl;
                holds = omega arith;
                size = omega arith;
                fits = omega arith;
                even = refl;
                low = omega (arith, n);
                shape = refl;
                number = omega arith;
                initial = refl;
                none = refl;
                plain = refl;
                fixed = refl;
                values = (tt, tt);
                valued = offset_valued;
                limit = refl;
              }),
              (
                inl (record {
                  newest = refl;
                  here = refl;
                  holds = omega arith;
                  size = omega arith;
                  fits = omega arith;
                  even = refl;
                  low = omega (arith, n);
                  shape = refl;
                  number = omega arith;
                  initial = refl;
                  none = refl;
                  plain = refl;
                  fixed = refl;
                  values = (tt, tt);
                  valued = offset_valued;
                  limit = refl;
                }),
                (
                  inl (record {
                    newest = refl;
                    here = refl;
                    holds = omega arith;
                    size = omega arith;
                    fits = omega arith;
                    even = refl;
                    low = omega (arith, n);
                    shape = refl;
                    number = omega arith;
                    initial = refl;
                    none = refl;
                    plain = refl;
                    fixed = refl;
                    values = (tt, tt);
                    valued = number_valued;
                    limit = refl;
                  }),
                  (
                    inl (record {
                      newest = refl;
                      here = refl;
                      holds = omega arith;
                      size = omega arith;
                      fits = omega arith;
                      even = refl;
                      low = omega (arith, n);
                      shape = refl;
                      number = omega arith;
                      initial = refl;
                      none = refl;
                      plain = refl;
                      fixed = refl;
                      values = (tt, tt);
                      valued = pointer_valued;
                      limit = refl;
                    }),
                    tt,
                  ),
                ),
              ),
            ),
          ),
        ),
      );
    }

abbrev pub twin_block : (input : List ℕ) → (acts : ℕ) → Block
twin_block input acts =
    block_at (surroundings_of (twin_image input acts)) (linked_code twin_code) (main_of (twin_whole input acts))
    (start_point (twin_image input acts)) no_numbers

pub pointer_known :
    (input : List ℕ) (acts : ℕ) → IsBegun (twin_block input acts) →
    IsKnown (twin_block input acts) pointer_spot pointer_declared
pointer_known input acts b =
    known_own (surroundings_of (twin_image input acts)) (linked_code twin_code) (main_of (twin_whole input acts))
    (start_point (twin_image input acts)) no_numbers twin_variables pointer_made pointer_spot
    (record { high = omega arith; inside = omega arith }) (twin_all input acts) (inr (inl refl))
    (record { declared = refl; index = refl; level = refl; own = refl; place = refl }) b

pub offset_known :
    (input : List ℕ) (acts : ℕ) → IsBegun (twin_block input acts) →
    IsKnown (twin_block input acts) offset_spot (offset_declared of_area)
offset_known input acts b =
    known_own (surroundings_of (twin_image input acts)) (linked_code twin_code) (main_of (twin_whole input acts))
    (start_point (twin_image input acts)) no_numbers twin_variables offset_made offset_spot
    (record { high = omega arith; inside = omega arith }) (twin_all input acts) (inr (inr (inr (inl refl))))
    (record { declared = refl; index = refl; level = refl; own = refl; place = refl }) b

pub first_known :
    (input : List ℕ) (acts : ℕ) → IsBegun (twin_block input acts) →
    IsKnown (twin_block input acts) first_spot (offset_declared of_area)
first_known input acts b =
    known_own (surroundings_of (twin_image input acts)) (linked_code twin_code) (main_of (twin_whole input acts))
    (start_point (twin_image input acts)) no_numbers twin_variables first_made first_spot
    (record { high = omega arith; inside = omega arith }) (twin_all input acts) (inr (inr (inr (inr (inl refl)))))
    (record { declared = refl; index = refl; level = refl; own = refl; place = refl }) b

number_known :
    (input : List ℕ) (acts : ℕ) → IsBegun (twin_block input acts) →
    IsKnown (twin_block input acts) number_spot (number_declared [])
number_known input acts b =
    known_own (surroundings_of (twin_image input acts)) (linked_code twin_code) (main_of (twin_whole input acts))
    (start_point (twin_image input acts)) no_numbers twin_variables number_made number_spot
    (record { high = omega arith; inside = omega arith }) (twin_all input acts) (inr (inr (inr (inr (inr (inl refl))))))
    (record { declared = refl; index = refl; level = refl; own = refl; place = refl }) b

pub spare_known :
    (input : List ℕ) (acts : ℕ) → IsBegun (twin_block input acts) →
    IsKnown (twin_block input acts) spare_spot pointer_declared
spare_known input acts b =
    known_own (surroundings_of (twin_image input acts)) (linked_code twin_code) (main_of (twin_whole input acts))
    (start_point (twin_image input acts)) no_numbers twin_variables spare_made spare_spot
    (record { high = omega arith; inside = omega arith }) (twin_all input acts) (inr (inr (inr (inr (inr (inr (inl
    refl)))))))
    (record { declared = refl; index = refl; level = refl; own = refl; place = refl }) b

pub spare_is :
    (input : List ℕ) (acts : ℕ) → IsBegun (twin_block input acts) → IsPointer (twin_block input acts) spare_spot
spare_is input acts b = record { begun = b; known = spare_known input acts b; own = refl }

pub number_is :
    (input : List ℕ) (acts : ℕ) → IsBegun (twin_block input acts) → IsNumber (twin_block input acts) number_spot
number_is input acts b = known_number (twin_block input acts) number_spot [] (number_known input acts b)

pub pointer_is :
    (input : List ℕ) (acts : ℕ) → IsBegun (twin_block input acts) → IsPointer (twin_block input acts) pointer_spot
pointer_is input acts b = record { begun = b; known = pointer_known input acts b; own = refl }

pub offset_is :
    (input : List ℕ) (acts : ℕ) → IsBegun (twin_block input acts) →
    IsOffsetVariable (twin_block input acts) offset_spot of_area
offset_is input acts b = record { initial = []; known = offset_known input acts b }

pub first_is :
    (input : List ℕ) (acts : ℕ) → IsBegun (twin_block input acts) →
    IsOffsetVariable (twin_block input acts) first_spot of_area
first_is input acts b = record { initial = []; known = first_known input acts b }

abbrev pub area_known : (input : List ℕ) (acts : ℕ) → IsKnown (twin_block input acts) area_spot area_declared
area_known input acts =
    record {
      declared = refl;
      serial = 1;
      binding = refl;
      living = K.living_at 1 1 (generation_for area_made);
      lives = refl;
      shape = refl;
      base = _;
      frame = inl (refl, refl);
      at = refl;
      low = omega arith;
      inside = omega arith;
    }

abbrev pub twin_known : (input : List ℕ) (acts : ℕ) → IsKnown (twin_block input acts) twin_spot area_declared
twin_known input acts =
    record {
      declared = refl;
      serial = 3;
      binding = refl;
      living = K.living_at 3 1 (generation_for twin_made);
      lives = refl;
      shape = refl;
      base = _;
      frame = inl (refl, refl);
      at = refl;
      low = omega arith;
      inside = omega arith;
    }

-- its frame tells the areas' names
abbrev pub has_area : (input : List ℕ) (acts : ℕ) → HasArea (twin_block input acts) area_spot
has_area input acts =
    record {
      declared = area_declared;
      known = area_known input acts;
      own = refl;
      capacity = 256;
      area = refl;
      layer = _;
      others = [];
      layers = refl;
      told = record { kind = refl; second = refl; low = refl; high = refl };
      few = omega arith;
    }

abbrev pub has_twin : (input : List ℕ) (acts : ℕ) → HasArea (twin_block input acts) twin_spot
has_twin input acts =
    record {
      declared = area_declared;
      known = twin_known input acts;
      own = refl;
      capacity = 256;
      area = refl;
      layer = _;
      others = [];
      layers = refl;
      told = record { kind = refl; second = refl; low = refl; high = refl };
      few = omega arith;
    }

pub is_structure :
    (input : List ℕ) (acts : ℕ) → IsBegun (twin_block input acts) →
    IsStructure (twin_block input acts) pointer_spot node_spot node_members node_leaves
is_structure input acts b =
    record {
      pointer = pointer_is input acts b;
      declared = refl;
      meant = refl;
      plain = refl;
      signature = 2;
      table = refl;
      number = omega arith;
      numbered = refl;
      low = omega arith;
    }

-- by way of the other pointer
pub is_spare :
    (input : List ℕ) (acts : ℕ) → IsBegun (twin_block input acts) →
    IsStructure (twin_block input acts) spare_spot node_spot node_members node_leaves
is_spare input acts b =
    record {
      pointer = spare_is input acts b;
      declared = refl;
      meant = refl;
      plain = refl;
      signature = 2;
      table = refl;
      number = omega arith;
      numbered = refl;
      low = omega arith;
    }

pub value_is : IsMember node_leaves value_member (Y.FixedLeaf 31)
value_is = record { initial = []; there = refl; few = omega arith }

pub next_is : IsMember node_leaves next_member (Y.OffsetLeaf of_area)
next_is = record { initial = []; there = refl; few = omega arith }
