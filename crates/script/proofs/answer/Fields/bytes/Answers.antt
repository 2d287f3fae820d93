use Rattle.std.proofs.Common.{◌≡◌, [], ◌∷◌, get_or, sym, ap, ◌∙◌}
use Rattle.rules.specs.Fnv.{le_bytes}
use Rattle.rules.specs.Bytes.{le_bytes_eight}
use Rattle.script.specs.Answers.{answer_number}
use Rattle.script.proofs.answer.Fields.bytes.Goals as goal

pub returns : goal.returns
returns c =
    let a = c.args.self.now in
    let r = c.refusal_byte-refusal.ensures in
    let k = c.code-code.ensures in
    let f = c.to_le_bytes.ensures in
    let t = c.to_le_bytes-2.ensures in
    let n : c.to_le_bytes-3.result ≡ le_bytes 8 (answer_number a.value) = c.to_le_bytes-3.ensures ∙ sym (le_bytes_eight c.number.result) ∙ ap (le_bytes 8) c.number.ensures in
    λ i.
    r i ∷ k i ∷ get_or (f i) 0 0 ∷ get_or (f i) 1 0 ∷ get_or (t i) 0 0 ∷ get_or (t i) 1 0 ∷ a.path_len ∷ 0
    ∷ get_or (n i) 0 0 ∷ get_or (n i) 1 0 ∷ get_or (n i) 2 0 ∷ get_or (n i) 3 0 ∷ get_or (n i) 4 0 ∷ get_or (n i) 5 0 ∷ get_or (n i) 6 0 ∷ get_or (n i) 7 0 ∷ []
