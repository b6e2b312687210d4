-- Services on areas, from the place on where an argument is known.
use Rattle.std.specs.Prelude.{ℕ, ◌&&◌, ◌==◌, Option, if◌then◌else◌}
use Rattle.pli_meaning.specs.Codes.{no_generation_code}
use Rattle.pli_meaning.specs.BasicValues.{Name}
use Rattle.pli_serving.specs.Answers.{Answer, Done}
use Rattle.pli_serving.specs.Arguments.{AreaArgument, area_if, area_named, asked, is_area, where_found}
use Rattle.pli_serving.specs.AreaServices.{assignment_answered, name_freed}
use Rattle.pli_serving.specs.Bytes.{with_bytes}
use Rattle.pli_serving.specs.Finding.{Call, Finding}
use Rattle.pli_serving.specs.Outcomes.{bad_unless, or_bad}

-- ---- 11: free

abbrev pub finding_freed : Call → (name : ℕ) → Name → (within : Option ℕ) → Option Finding → Answer
finding_freed c name n within o = where_found o (Done c.services c.memory name no_generation_code) (λ f. name_freed c name n f.signature within)

abbrev pub asked_freed : Call → (name signature : ℕ) → Name → (within : Option ℕ) → Answer
asked_freed c name signature n within = finding_freed c name n within (asked c n signature)

abbrev pub named_freed : Call → (name signature area : ℕ) → Name → Answer
named_freed c name signature area n = or_bad (area_if c area) (λ within. asked_freed c name signature n within)

-- ---- 12: area assignment

abbrev pub assigned_from : Call → (target : ℕ) → (into from : AreaArgument) → Answer
assigned_from c target into from =
    bad_unless (is_area c into && is_area c from)
    (if into.serial == from.serial then Done c.services c.memory target 0
    else assignment_answered c target into.area.at (c.keeper.copied from.area.bytes into.area.bytes))

abbrev pub assigned_to : Call → (target source : ℕ) → (into : AreaArgument) → Answer
assigned_to c target source into = or_bad (area_named c source) (λ from. assigned_from c target into from)

-- ---- 13: empty

abbrev pub area_emptied : Call → (area a1 : ℕ) → AreaArgument → Answer
area_emptied c area a1 a =
    bad_unless (is_area c a) (Done c.services (with_bytes (c.keeper.emptied a.area.bytes) a.area.at c.memory) area a1)
