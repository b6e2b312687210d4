-- The keeper of all areas of a run. What stands on runs says nothing of how areas are kept but by this name.
use Rattle.area_keeper.specs.Keeper.{Keeper}
use Rattle.granule_keeper.specs.Granules.{granules}

abbrev pub run_keeper : Keeper
run_keeper = granules
