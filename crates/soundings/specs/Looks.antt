-- The look in both maps whose edges are laid. Assumes nothing.
use Rattle.laws_soundings.specs.Run.{Look}
use Rattle.soundings.specs.Rows.{look_by}
use Rattle.soundings.specs.declared.maps.Maps.{Maps}

abbrev pub look_of : Maps → Look
look_of m = look_by m.zones.rails.now m.zones.easts.now m.zones.count m.blocks.rails.now m.blocks.easts.now m.blocks.count
