-- Texts of equations and the outcomes of their calls.
use Rattle.std.specs.Prelude.{ℕ, List, [], ◌∷◌, map, ◌≡◌}
use Prim.Native.String.{String}
use Rattle.netlist.specs.Lists.{ascii}
use Rattle.netlist.specs.declared.Sizes.TheVariants.{Standard}
use Rattle.netlist.specs.Netlist.{source_limits}
use Rattle.netlist.specs.Outcome.{Outcome, refused, done}
use Rattle.verilog.specs.Call.{equations_call}

pub record Example : Type 0 where
  pub text : String
  pub outcome : Outcome (List ℕ)

abbrev pub gives : String → String → Example
gives t r = record { text = t; outcome = done (ascii r) }

abbrev pub refuses : String → ℕ → Example
refuses t q = record { text = t; outcome = refused q }

-- every text has its outcome
abbrev pub Shown : List Example → Type 0
Shown es = map (λ e. equations_call (source_limits Standard) (2048 ∷ 2048 ∷ []) (ascii e.text) 60000) es
    ≡ map (λ e. e.outcome) es

abbrev pub examples : List Example
examples =
    gives "module m(a,b,y);input a,b;output y;wire w;assign w=a&~b;assign y=w^a;endmodule"
    "4 6\n1 2\n1 1\n\n1 1 1 2 INV\n2 1 0 2 3 AND\n2 1 3 0 4 XOR\n1 1 4 5 EQW\n"
    ∷ gives " module m ( y , a ) ;\r\ninput a ; output y ; assign y = a ;\n endmodule\r\n "
    "1 2\n1 1\n1 1\n\n1 1 0 1 EQW\n"
    ∷ gives "module y(y,a,b,c);input c,b,a;output y;assign y=a^b&c^a;endmodule"
    "4 7\n1 3\n1 1\n\n2 1 1 2 3 AND\n2 1 0 3 4 XOR\n2 1 4 0 5 XOR\n1 1 5 6 EQW\n"
    ∷ refuses "" 16
    ∷ refuses "module m(y,a);\rinput a;output y;assign y=a;endmodule" 16
    ∷ refuses "module m(y,a);input a;output y;assign y=~~a;endmodule" 16
    ∷ refuses "module m(y,a);input a;assign y=a;output y;endmodule" 16
    ∷ refuses "module m(y,a);input wire a;output y;assign y=a;endmodule" 16
    ∷ refuses "module m(y,a);input a;output y;assign y=y;endmodule" 17
    ∷ refuses "module m(y,a);input a;output y;wire w;assign y=a;endmodule" 17
    ∷ refuses "module m(y,a);input a;output y;assign y=((((((((((((((((((((((((((((((((((a))))))))))))))))))))))))))))))))));endmodule" 18
    ∷ []
