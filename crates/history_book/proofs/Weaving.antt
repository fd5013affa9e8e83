-- The printed entries of a woven list.
use Rattle.std.proofs.Common.{◌≡◌, List, [], ◌∷◌, length, reverse, refl, ap, ◌∙◌, sym, arith}
use Rattle.std.proofs.lemmas.List.{length-reverse}
use Rattle.history_rules.specs.declared.entry.Entry.{Entry}
use Rattle.history_book.specs.declared.inner.Inner.{Inner}
use Rattle.history_book.specs.declared.inner.Stop.{Stop}
use Rattle.history_book.specs.declared.inner.Stop.TheVariants.{Printed, Task, Inner as InnerStop}
use Rattle.history_book.specs.Log.{printed, weave, marks, inner_marks}

printed_weave : (stops : List Stop) (es : List Entry) (inners : List Inner) → marks stops ≡ length es → inner_marks stops ≡ length inners → printed (weave stops es inners) ≡ es
printed_weave [] [] inners h k = refl
printed_weave [] (e ∷ es) inners h k = absurd (omega arith)
printed_weave (InnerStop ∷ stops) es [] h k = absurd (omega arith)
printed_weave (InnerStop ∷ stops) es (i ∷ inners) h k = printed_weave stops es inners h (omega arith)
printed_weave (Printed ∷ stops) [] inners h k = absurd (omega arith)
printed_weave (Printed ∷ stops) (e ∷ es) inners h k = ap (λ (t : List Entry). e ∷ t) (printed_weave stops es inners (omega arith) k)
printed_weave (Task ∷ stops) [] inners h k = absurd (omega arith)
printed_weave (Task ∷ stops) (e ∷ es) inners h k = ap (λ (t : List Entry). e ∷ t) (printed_weave stops es inners (omega arith) k)

pub reverse_printed : (stops : List Stop) (es : List Entry) (inners : List Inner) → marks stops ≡ length es → inner_marks stops ≡ length (reverse inners)
    → printed (weave stops (reverse es) (reverse inners)) ≡ reverse es
reverse_printed stops es inners h k = printed_weave stops (reverse es) (reverse inners) (h ∙ sym (length-reverse es)) k
