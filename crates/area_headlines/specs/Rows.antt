-- The headlines of the worked rows of areas: one is assigned whole and emptied, so that a pointer into it is told;
-- what is allocated in one is freed twice; and two pointers to it are compared.
use Rattle.pli_coding.specs.Images.{picture_of}
use Rattle.pli_coding.specs.SignatureTable.{table_of}
use Rattle.pli_headline.specs.Headline.{Headline, parts}
use Rattle.area_assignments.specs.Rows.{clear_program}
use Rattle.area_freeings.specs.Rows.{release_program}
use Rattle.locator_runs.specs.Rows.{follow_program}

abbrev pub ClearKept : Type 0
ClearKept = Headline clear_program (picture_of parts clear_program) (table_of clear_program)

abbrev pub ReleaseKept : Type 0
ReleaseKept = Headline release_program (picture_of parts release_program) (table_of release_program)

abbrev pub FollowKept : Type 0
FollowKept = Headline follow_program (picture_of parts follow_program) (table_of follow_program)
