-- what the program says about its own use
use Rattle.std.specs.Prelude.{ℕ, List, ◌++◌, codes}
use Rattle.people_words.{specs.declared.words.HelpTopic.HelpTopic, specs.declared.words.HelpTopic.TheVariants.{Plan, View, Failures, Help}}

-- how the program is used
abbrev pub help_text : List ℕ
help_text =
    codes "zorgwint plans link capacities for a network whose demands must be carried, and helps people with the files of it.\n"
    ++ codes "\n"
    ++ codes "  zorgwint plan NET [--model F] [--failures F] [--survive links] [--splits N] [--report] [--quiet]\n"
    ++ codes "      a plan for NET: what to buy, loads, failures, and how near to the cheapest it is; with --report the report that planner_top\n"
    ++ codes "      checks and view reads, and the first lines of the tables beside it\n"
    ++ codes "  zorgwint view NET REPORT [--model F] [--failures F] [--survive links] [--csv links|states|flows | --state NAME] [--svg]\n"
    ++ codes "      tables of a report of plans for NET, which is checked first: what to buy, loads, failures, and what is known of the cost;\n"
    ++ codes "      with --csv a sheet of comma-separated values, with a row for each link, state or flow; with --state the loads and paths of\n"
    ++ codes "      one state, by its name; with --svg a picture of the first plan, in that state\n"
    ++ codes "  zorgwint failures NET\n"
    ++ codes "      a failure list of each single link that can fail without separating a demand; the others stand in comments\n"
    ++ codes "  zorgwint help [COMMAND] | --help | --version\n"
    ++ codes "      this text, or how COMMAND alone is used; which version it is\n"
    ++ codes "\n"
    ++ codes "NET is the file of a network in SNDlib's native format, REPORT one that plan --report or planner_top has written, and - is\n"
    ++ codes "standard input. --model names a model, --failures a failure list; --survive links stands for a list of each single link, and no\n"
    ++ codes "setup is charged without a model. --splits is how often a branch tree splits at most, from 0 to 9999: by default 100 times for up\n"
    ++ codes "to 20 nodes, 10 for up to 40, and else 0. --quiet leaves out how far the planning is. Options stand in any place, each once.\n"
    ++ codes "After -- no word is an option.\n"
    ++ codes "\n"
    ++ codes "Exit statuses: 0 done, 2 these words are no command, 3 a file isn't there, 4 reading failed, 5 writing failed,\n"
    ++ codes "6 the network is refused, 7 the model, 8 the failure list, 10 a demand is separated, 11 the report is wrong,\n"
    ++ codes "12 a file is too long, 13 the report can't be read, 14 there is no memory\n"

-- how `plan` is used
abbrev pub plan_help : List ℕ
plan_help =
    codes "zorgwint plan NET [--model F] [--failures F] [--survive links] [--splits N] [--report] [--quiet]\n"
    ++ codes "    a plan for NET: what to buy, loads, failures, and how near to the cheapest it is\n"
    ++ codes "\n"
    ++ codes "  NET               the file of a network in SNDlib's native format; - is standard input\n"
    ++ codes "  --model F         the file of a planning model; without one no setup is charged\n"
    ++ codes "  --failures F      the file of a failure list; without one each single link fails where the model asks for survivability, and\n"
    ++ codes "                    else none\n"
    ++ codes "  --survive links   each single link's failure is survived; no failure list is named beside it\n"
    ++ codes "  --splits N        how often a branch tree splits at most, from 0 to 9999: by default 100 times for up to 20 nodes, 10 for up\n"
    ++ codes "                    to 40, and else 0\n"
    ++ codes "  --report          the report that planner_top checks and view reads, and the first lines of the tables beside it\n"
    ++ codes "  --quiet           nothing is said of how far the planning is\n"
    ++ codes "\n"
    ++ codes "Options stand in any place, each once. After -- no word is an option.\n"

-- how `view` is used
abbrev pub view_help : List ℕ
view_help =
    codes "zorgwint view NET REPORT [--model F] [--failures F] [--survive links] [--csv WHAT | --state NAME] [--svg]\n"
    ++ codes "    tables of a report of plans for NET, which is checked first: what to buy, loads, failures, and what is known of the cost\n"
    ++ codes "\n"
    ++ codes "  NET               the file of a network in SNDlib's native format\n"
    ++ codes "  REPORT            the file of a report that plan --report or planner_top has written; one of the two files may be -, which is\n"
    ++ codes "                    standard input\n"
    ++ codes "  --model F         the file of the planning model that the plans are for, if there is one\n"
    ++ codes "  --failures F      the file of the failure list that they are for, if there is one\n"
    ++ codes "  --survive links   they are for each single link's failure; no failure list is named beside it\n"
    ++ codes "  --csv WHAT        a sheet of comma-separated values, with a row for each of WHAT: links, states or flows\n"
    ++ codes "  --state NAME      the loads and paths of one state: none, where nothing fails, or a failure by its name\n"
    ++ codes "  --svg             a picture of the first plan, in the state that --state names, or else where nothing fails; not with --csv\n"
    ++ codes "\n"
    ++ codes "Options stand in any place, each once. After -- no word is an option.\n"

-- how `failures` is used
abbrev pub failures_help : List ℕ
failures_help =
    codes "zorgwint failures NET\n"
    ++ codes "    a failure list of each single link that can fail without separating a demand; the others stand in comments\n"
    ++ codes "\n"
    ++ codes "  NET   the file of a network in SNDlib's native format; - is standard input\n"
    ++ codes "\n"
    ++ codes "It takes no options. After -- no word is one, so that NET may begin with a minus.\n"

-- how `help` is used
abbrev pub help_help : List ℕ
help_help =
    codes "zorgwint help [COMMAND]\n"
    ++ codes "    what all commands do and take, or how COMMAND alone is used\n"
    ++ codes "\n"
    ++ codes "  COMMAND   plan, view, failures or help\n"
    ++ codes "\n"
    ++ codes "zorgwint --help is help without COMMAND, and zorgwint --version tells which version it is.\n"

-- how a command is used
abbrev pub topic_help : HelpTopic → List ℕ
topic_help Plan = plan_help
topic_help View = view_help
topic_help Failures = failures_help
topic_help Help = help_help
