use Rattle.std.proofs.Common.{[], ◌∷◌, ◌++◌, List, codes}
use Rattle.documents.specs.declared.query.Query.TheVariants.{Word, Phrase, All}
use Rattle.script_serving.specs.declared.script.LineCommand.{LineCommand}
use Rattle.script_serving.specs.declared.script.LineCommand.TheVariants.{Publish, Settle, Search}
use Rattle.load_script.specs.Generated.{last_commands}
use Rattle.load_script.proofs.LoadLines.{search_added, adds_then, adds_all}
use Rattle.load_script.proofs.commands.last_lines.Goals as goal

pub returns : goal.returns
returns c =
    let first = c.args.first in
    let words : List LineCommand = Search (record { 0 = 3 }) (Word (codes "doc")) ∷ [] in
    let one : List LineCommand = Search (record { 0 = 3 }) (Word (codes "a0")) ∷ [] in
    let two : List LineCommand = Search (record { 0 = 3 }) (All (Word (codes "a0") ∷ Word (codes "b0") ∷ [])) ∷ [] in
    let three : List LineCommand = Search (record { 0 = 3 }) (Phrase (codes "a1" ∷ codes "b1" ∷ [])) ∷ [] in
    adds_all first 1 last_commands c.new-lines.result.items c.push_line-6.new.lines.items c.new-lines.ensures.items
    (adds_then first 1 (Publish ∷ []) ((Settle ∷ []) ++ (words ++ (one ++ (two ++ three)))) c.new-lines.result.items c.push_line.new.lines.items c.push_line-6.new.lines.items c.in_ok-push_line.ensures.adds
    (adds_then first 1 (Settle ∷ []) (words ++ (one ++ (two ++ three))) c.push_line.new.lines.items c.push_line-2.new.lines.items c.push_line-6.new.lines.items c.in_ok-push_line-2.ensures.adds
    (adds_then first 1 words (one ++ (two ++ three)) c.push_line-2.new.lines.items c.push_line-3.new.lines.items c.push_line-6.new.lines.items
    (search_added first _ _ c.in_ok-documents.documents (Word (codes "doc")) c.in_ok-documents.ensures c.in_ok-push_line-3.ensures.adds)
    (adds_then first 1 one (two ++ three) c.push_line-3.new.lines.items c.push_line-4.new.lines.items c.push_line-6.new.lines.items
    (search_added first _ _ c.in_ok-one.one (Word (codes "a0")) c.in_ok-one.ensures c.in_ok-push_line-4.ensures.adds)
    (adds_then first 1 two three c.push_line-4.new.lines.items c.push_line-5.new.lines.items c.push_line-6.new.lines.items
    (search_added first _ _ c.in_ok-two.two (All (Word (codes "a0") ∷ Word (codes "b0") ∷ [])) c.in_ok-two.ensures c.in_ok-push_line-5.ensures.adds)
    (search_added first _ _ c.in_ok-three.three (Phrase (codes "a1" ∷ codes "b1" ∷ [])) c.in_ok-three.ensures c.in_ok-push_line-6.ensures.adds))))))
