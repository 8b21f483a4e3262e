-- "Every public function has a promise that leaves one possible outcome": a promise says `outcome ≡ definition`.
use Rattle.std.specs.Prelude.{◌≡◌}

-- "any two outcomes allowed are equal"
abbrev pub Sole : {A : Type 0} → A → Type 0
Sole {A} definition = (first second : A) → first ≡ definition → second ≡ definition → first ≡ second
