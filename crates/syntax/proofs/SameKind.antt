-- A kind's code names it, and no other kind. Assumes nothing.
use Rattle.std.proofs.Common.{◌≡◌, Some, sym, refl, ap, ◌∙◌}
use Rattle.syntax.specs.declared.record.Kind.{Kind}
use Rattle.syntax.specs.declared.record.Kind.TheVariants.{Channel, Stream, Rule}
use Rattle.syntax.specs.Entries.{kind_code, kind_coded}

pub kind_back : (k : Kind) → kind_coded (kind_code k) ≡ Some k
kind_back Channel = refl
kind_back Stream = refl
kind_back Rule = refl

pub same_kind : (a b : Kind) → kind_code a ≡ kind_code b → a ≡ b
same_kind a b e = let back : Some a ≡ Some b = sym (kind_back a) ∙ ap kind_coded e ∙ kind_back b in cc
