-- What a pass saw tells what the code answers.
use Rattle.std.specs.Prelude.{Option, Some, None, Result, Ok, Err}
use Rattle.std.proofs.Common.{◌≡◌, refl}
use mathlib.Core.Path.{sym, ap, ◌∙◌}
use Rattle.refusal.specs.declared.Refusal.{Refusal}
use Rattle.refusal.proofs.Told.{named, named_again}
use Rattle.flow.specs.declared.Way.{Way}
use Rattle.layout.specs.declared.Point.{Point}
use Rattle.layout.specs.Code.{Seen, Goes, Ends, Stops, seen_of}

abbrev answer : Seen → Result (Option (Way × Point)) Refusal
answer (Goes w q) = Ok (Some (w, q))
answer Ends = Ok None
answer (Stops number) = Err (named number)

again : (a : Result (Option (Way × Point)) Refusal) → answer (seen_of a) ≡ a
again (Ok (Some (w, q))) = refl
again (Ok None) = refl
again (Err refusal) = ap (λ x. Err x) (named_again refusal)

pub one_seen : (a b : Result (Option (Way × Point)) Refusal) → seen_of a ≡ seen_of b → a ≡ b
one_seen a b e = sym (again a) ∙ ap answer e ∙ again b
