-- What a driver means: where its player stands, and its challenger's state.
use Rattle.driver.specs.declared.driver.Driver.{Driver}
use Rattle.ends.specs.Shared.{Core}
use Rattle.player.specs.Plays.{play_of}

abbrev pub core_of : {C U S : Type 0} → (C → S) → Driver C U → Core S
core_of means d = record { play = play_of d.player; state = means d.challenger }
