-- What the worked row's block knows: its variables, and what its pointers point to.
use Rattle.std.proofs.Common.{ℕ, List, [], ◌∷◌, inl, inr, map}
use Rattle.std.proofs.Common.{refl, arith}
use Rattle.pli_typing.specs.TypedTree as Y
use Rattle.pli_meaning.specs.Making as K
use Rattle.pli_serving.specs.Templates.{template_of}
use Rattle.pli_coding.specs.Images.{linked_code, picture_of}
use Rattle.pli_coding.specs.Linking.{links_of}
use Rattle.pli_coding.specs.SignatureTable.{table_of}
use Rattle.storage_relation.specs.Served.{AllDiffer}
use Rattle.storage_relation.proofs.TableSignatures.{table_differs, table_once}
use Rattle.run_steps.proofs.Linking.{linked_length}
use Rattle.pli_headline.specs.Headline.{FitsMemory, parts}
use Rattle.program_places.specs.Programs.{Run, image_for}
use Rattle.program_runs.specs.Calls.{block_at}
use Rattle.program_runs.specs.Programs.{Whole, main_of}
use Rattle.program_runs.specs.Starts.{Image, image_parts, no_numbers, start_point}
use Rattle.program_runs.specs.Starts.{surroundings_of}
use Rattle.program_runs.specs.Statements.{Block, IsBegun}
use Rattle.program_runs.specs.Variables.{Declared, generation_for}
use Rattle.program_runs.proofs.VariableRows.{number_valued}
use Rattle.expression_runs.specs.Variables.{IsNumber}
use Rattle.variable_runs.specs.Known.{IsKnown}
use Rattle.variable_runs.specs.Lists.{AreAll, newest_all}
use Rattle.variable_runs.proofs.Known.{known_number, known_own}
use Rattle.area_runs.specs.Allocations.{HasArea}
use Rattle.area_runs.specs.Based.{pointer_declared}
use Rattle.area_runs.proofs.Rows.{pointer_valued}
use Rattle.locator_runs.specs.Pointers.{IsPointer}
use Rattle.member_runs.specs.Members.{IsMember, IsStructure}
use Rattle.block_headlines.proofs.VariableRuns.{fits}
use Rattle.walked_headlines.specs.Rows.{area_declared, area_made, area_spot, head_made, head_spot}
use Rattle.walked_headlines.specs.Rows.{next_member, node_leaves, node_members, node_spot, number_made, number_spot}
use Rattle.walked_headlines.specs.Rows.{pointer_made, pointer_spot, value_member, walk_entry}
use Rattle.walked_headlines.specs.Rows.{walk_environment, walk_main}
use Rattle.walked_headlines.specs.Rows.{walk_program}
use Rattle.walked_headlines.proofs.Placed.{walk_code, walk_finish}

-- ---- its image

pub walk_fits : FitsMemory (picture_of parts walk_program)
walk_fits = fits walk_program (omega arith) (omega arith)

abbrev pub run_of : (input : List ℕ) → (acts : ℕ) → Run
run_of input acts = record { units = []; input = input; acts = acts; serials = 4 }

abbrev pub walk_image : (input : List ℕ) → (acts : ℕ) → Image
walk_image input acts = image_for walk_program (run_of input acts)

abbrev pub walk_variables : List Declared
walk_variables = area_made ∷ pointer_made ∷ head_made ∷ number_made ∷ []

abbrev pub walk_whole : (input : List ℕ) → (acts : ℕ) → Whole
walk_whole input acts =
    record {
      image = walk_image input acts;
      program = walk_program;
      main = walk_main;
      others = [];
      environment = walk_environment;
      entry = walk_entry;
      end = walk_finish;
      made = newest_all image_parts walk_variables;
    }

pub all_differ : AllDiffer (map template_of (table_of walk_program))
all_differ =
    table_differs (table_of walk_program) (table_once walk_program) (
      record { headed = refl; leaved = (record { sized = refl; few = omega arith; bounded = tt; placed = refl }, tt) },
      (tt, tt),
      (
        record {
          headed = refl;
          leaved = (
            record {
              sized = refl;
              few = omega arith;
              bounded = tt;
              placed = refl;
            },
            tt,
          );
        },
        (tt, tt),
        (
          record {
            headed = refl;
            leaved = (
              record {
                sized = refl;
                few = omega arith;
                bounded = tt;
                placed = refl;
              },
              (record { sized = refl; few = omega arith; bounded = tt; placed = refl }, tt),
            );
          },
          (tt, (tt, tt)),
          (
            record {
              headed = refl;
              leaved = (
                record { sized = refl; few = omega arith; bounded = tt; placed = refl },
                tt,
              );
            },
            (tt, tt),
            tt,
          ),
        ),
      ),
    )

-- ---- its variables

pub walk_all :
    (input : List ℕ) (acts : ℕ) →
    AreAll (surroundings_of (walk_image input acts)) (main_of (walk_whole input acts))
    (start_point (walk_image input acts)) no_numbers walk_variables
walk_all input acts =
    let n = linked_length (links_of walk_code) 0 walk_code in
    record {
      kind = refl;
      those = inl (refl, refl, inl (refl, refl, inr (refl, inl (refl, refl, inl (refl, refl, tt)))));
      listed = (
        record { class = refl; evaluations = refl; late = omega arith; table = refl },
        (
          record { class = refl; evaluations = refl; late = omega arith; table = refl },
          (
            record { class = refl; evaluations = refl; late = omega arith; table = refl },
            (record { class = refl; evaluations = refl; late = omega arith; table = refl }, tt),
          ),
        ),
      );
      code = refl;
      made = refl;
      parts = refl;
      few = omega arith;
      declared = (
        inr (record {
          newest = refl;
          here = refl;
          capacity = 256;
          holds = omega arith;
          size = omega arith;
          fits = omega arith;
          even = refl;
          low = omega (arith, n);
          shape = refl;
          number = omega arith;
          initial = refl;
          none = refl;
          area = refl;
          fixed = refl;
          rounded = refl;
          bounded = omega arith;
          serial = omega arith;
          limit = refl;
        }),
        (
          inl (record {
            newest = refl;
            here = refl;
            holds = omega arith;
            size = omega arith;
            fits = omega arith;
            even = refl;
            low = omega (arith, n);
            shape = refl;
            number = omega arith;
            initial = refl;
            none = refl;
            plain = refl;
            fixed = refl;
            values = (tt, tt);
            valued = pointer_valued;
            limit = refl;
          }),
          (
            inl (record {
              newest = refl;
              here = refl;
              holds = omega arith;
              size = omega arith;
              fits = omega arith;
              even = refl;
              low = omega (arith, n);
              shape = refl;
              number = omega arith;
              initial = refl;
              none = refl;
              plain = refl;
              fixed = refl;
              values = (tt, tt);
              valued = pointer_valued;
              limit = refl;
            }),
            (
              inl (record {
                newest = refl;
                here = refl;
                holds = omega arith;
                size = omega arith;
                fits = omega arith;
                even = refl;
                low = omega (arith, n);
                shape = refl;
                number = omega arith;
                initial = refl;
                none = refl;
                plain = refl;
                fixed = refl;
                values = (tt, tt);
                valued = number_valued;
                limit = refl;
              }),
              tt,
            ),
          ),
        ),
      );
    }

abbrev pub walk_block : (input : List ℕ) → (acts : ℕ) → Block
walk_block input acts =
    block_at (surroundings_of (walk_image input acts)) (linked_code walk_code) (main_of (walk_whole input acts))
    (start_point (walk_image input acts)) no_numbers

pub pointer_known :
    (input : List ℕ) (acts : ℕ) → IsBegun (walk_block input acts) →
    IsKnown (walk_block input acts) pointer_spot pointer_declared
pointer_known input acts b =
    known_own (surroundings_of (walk_image input acts)) (linked_code walk_code) (main_of (walk_whole input acts))
    (start_point (walk_image input acts)) no_numbers walk_variables pointer_made pointer_spot
    (record { high = omega arith; inside = omega arith }) (walk_all input acts) (inr (inl refl))
    (record { declared = refl; index = refl; level = refl; own = refl; place = refl }) b

pub head_known :
    (input : List ℕ) (acts : ℕ) → IsBegun (walk_block input acts) →
    IsKnown (walk_block input acts) head_spot pointer_declared
head_known input acts b =
    known_own (surroundings_of (walk_image input acts)) (linked_code walk_code) (main_of (walk_whole input acts))
    (start_point (walk_image input acts)) no_numbers walk_variables head_made head_spot
    (record { high = omega arith; inside = omega arith }) (walk_all input acts) (inr (inr (inl refl)))
    (record { declared = refl; index = refl; level = refl; own = refl; place = refl }) b

pub number_is :
    (input : List ℕ) (acts : ℕ) → IsBegun (walk_block input acts) → IsNumber (walk_block input acts) number_spot
number_is input acts b =
    known_number (walk_block input acts) number_spot []
    (known_own (surroundings_of (walk_image input acts)) (linked_code walk_code) (main_of (walk_whole input acts))
    (start_point (walk_image input acts)) no_numbers walk_variables number_made number_spot
    (record { high = omega arith; inside = omega arith }) (walk_all input acts) (inr (inr (inr (inl refl))))
    (record { declared = refl; index = refl; level = refl; own = refl; place = refl }) b)

pub pointer_is :
    (input : List ℕ) (acts : ℕ) → IsBegun (walk_block input acts) → IsPointer (walk_block input acts) pointer_spot
pointer_is input acts b = record { begun = b; known = pointer_known input acts b; own = refl }

pub head_is :
    (input : List ℕ) (acts : ℕ) → IsBegun (walk_block input acts) → IsPointer (walk_block input acts) head_spot
head_is input acts b = record { begun = b; known = head_known input acts b; own = refl }

abbrev pub area_known : (input : List ℕ) (acts : ℕ) → IsKnown (walk_block input acts) area_spot area_declared
area_known input acts =
    record {
      declared = refl;
      serial = 1;
      binding = refl;
      living = K.living_at 1 1 (generation_for area_made);
      lives = refl;
      shape = refl;
      base = _;
      frame = inl (refl, refl);
      at = refl;
      low = omega arith;
      inside = omega arith;
    }

-- its frame tells the area's name
abbrev pub has_area : (input : List ℕ) (acts : ℕ) → HasArea (walk_block input acts) area_spot
has_area input acts =
    record {
      declared = area_declared;
      known = area_known input acts;
      own = refl;
      capacity = 256;
      area = refl;
      layer = _;
      others = [];
      layers = refl;
      told = record { kind = refl; second = refl; low = refl; high = refl };
      few = omega arith;
    }

pub is_structure :
    (input : List ℕ) (acts : ℕ) → IsBegun (walk_block input acts) →
    IsStructure (walk_block input acts) pointer_spot node_spot node_members node_leaves
is_structure input acts b =
    record {
      pointer = pointer_is input acts b;
      declared = refl;
      meant = refl;
      plain = refl;
      signature = 2;
      table = refl;
      number = omega arith;
      numbered = refl;
      low = omega arith;
    }

pub value_is : IsMember node_leaves value_member (Y.FixedLeaf 31)
value_is = record { initial = []; there = refl; few = omega arith }

pub next_is : IsMember node_leaves next_member Y.PointerLeaf
next_is = record { initial = []; there = refl; few = omega arith }
