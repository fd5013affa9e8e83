-- What the marks of a drawing look like, in the light and in the dark, and what they mean.
use Rattle.std.specs.Prelude.{ℕ, List, [], ◌∷◌, ◌++◌, codes}

-- what the ground, the bands and the steps look like, in the light
abbrev pub look_text : List ℕ
look_text =
    codes "<style>svg{background:#fff;--i:#1b1b1b;--q:#6b7178;--s:#c9d3dd;--w:#f3f5f7;--d:#c4342b;--t:#7a3e9d;font:10px sans-serif}"
    ++ codes "text{fill:var(--i)}.q{fill:var(--q)}.w{fill:var(--w)}.r{fill:var(--s)}.p{fill:var(--g);fill-opacity:.3}"
    ++ codes ".e{stroke:var(--q);stroke-width:2}.f{stroke:var(--g);stroke-width:5}.n{stroke:var(--i);stroke-dasharray:1 3}"

-- what bars, lines and signs look like
abbrev pub plain_text : List ℕ
plain_text =
    codes ".d{fill:url(#d);stroke:var(--d)}.m{stroke:var(--d);stroke-width:3}.t{stroke:var(--t);stroke-width:3;stroke-linecap:round}"
    ++ codes ".l{fill:var(--q)}.k{fill:none;stroke:var(--q);stroke-dasharray:2 2}.s{text-anchor:middle;font:bold 11px monospace}"

-- the colours and the dashes of generations
abbrev pub colours_text : List ℕ
colours_text =
    codes ".g0{--g:#556b7a}.g1{--g:#1f6fb4}.g2{--g:#c26a00}.g3{--g:#0d8a66}.g4{--g:#8d4fb0}.g5{--g:#8a6d1f}"
    ++ codes ".f.g2{stroke-dasharray:14 2}.f.g3{stroke-dasharray:6 2}.f.g4{stroke-dasharray:14 2 3 2}"
    ++ codes ".f.g5{stroke-dasharray:3 2}.f.g0{stroke-dasharray:9 2 9 6}"

-- what is else in the dark
abbrev pub dark_text : List ℕ
dark_text =
    codes "@media (prefers-color-scheme:dark){svg{background:#15181c;--i:#e8e8e8;--q:#9aa2aa;--s:#3b4956;--w:#1d2227;--d:#ff7b6e;--t:#d3a6f0}"
    ++ codes ".g0{--g:#9db4c4}.g1{--g:#62aef0}.g2{--g:#f2a444}.g3{--g:#3fc79b}.g4{--g:#c08be0}.g5{--g:#d8bd62}}</style>"
    ++ codes "<defs><pattern id='d' width='6' height='6' patternUnits='userSpaceOnUse' patternTransform='rotate(45)'>"
    ++ codes "<path class='m' d='M0 0v6'/></pattern></defs>"

-- what the marks mean
abbrev pub meaning_text : List ℕ
meaning_text =
    codes "<text x='8' y='18'>Each node has a band. Its step is the version that the node searches; the dots are the newest. "
    ++ codes "P primary: thick, a colour and a dash for each generation. r replica. -2: the newest is 2 further. Hatched: down.</text>"
    ++ codes "<text x='8' y='34'>* published or promoted, &lt; copy begins, + switched, ? search begins, ! answered, "
    ++ codes "( ticket opened: a bar at its version, ) closed, ~ commit begins, = committed, x crashed, ^ reopened, % fault met.</text>"
    ++ codes "<text x='8' y='50'>Above the nodes: the lanes of the script, a bar for each line from its first entry to its reply, "
    ++ codes "dashed where it was refused. Each mark tells more under the pointer.</text>"

-- what the marks look like and mean
abbrev pub style_text : List ℕ
style_text = look_text ++ plain_text ++ colours_text ++ dark_text ++ meaning_text ++ 10 ∷ []
