use Rattle.storage_relation.proofs.StaysClear.{clear_assigned, clear_area, clear_allocated, clear_made, clear_ended}
use Rattle.storage_relation.proofs.Living.{clear_by_regions, regions_ended}
use Rattle.storage_relation.proofs.laws.clear_stays.Goals as goal

pub returns : goal.returns
returns c = record {
  stored = clear_assigned;
  areas = clear_area;
  placed = clear_allocated;
  begun = clear_made;
  gone = clear_ended;
  regions = λ w region at count r heap others.
      clear_by_regions w.keeper w.places w.state region at count r heap others;
  owned = λ w h region height r. regions_ended w.keeper w.places w.state region height h.lives r;
}
